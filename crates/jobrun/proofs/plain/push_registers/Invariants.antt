use Rattle.std.proofs.Common.{◌≡◌, ◌++◌, take, string_bytes}
use Rattle.jobfile.specs.Lines.{numbered}
use Rattle.jobrun.specs.Runs.{register_line}
use Rattle.jobrun.proofs.plain.push_registers.Given as goal

abbrev pub invariant-loop-number : goal.invariant-loop-number
invariant-loop-number l = string_bytes l.text ≡ string_bytes l.initial.text ++ numbered register_line 0 (take l.number l.registers)
