use Rattle.std.proofs.Common.{◌≡◌, take}
use Rattle.pickcore.specs.Calls.{placed_from}
use Rattle.pickcore.proofs.calls.place_registers.Given as goal

abbrev pub invariant-loop-register : goal.invariant-loop-register
invariant-loop-register g l = g.S.Recovery.meaning l.scheme ≡ placed_from (g.S.Recovery.meaning l.initial.scheme) 0 (take l.register l.words)
