use Rattle.std.proofs.Common.{◌≡◌, ◌^◌, ◌<◌, drop}
use Rattle.script.specs.Numerals.{value_from, fitting, numeral}
use Rattle.script.proofs.numeral.numeral_value.Given as goal

-- what is left of the digits gives the same number
abbrev pub invariant-loop-byte : goal.invariant-loop-byte
invariant-loop-byte l = (l.value < 2 ^ 32) × (fitting (value_from l.base l.value (drop l.byte-index l.digits)) ≡ numeral l.base l.digits)
