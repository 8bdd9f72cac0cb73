use Rattle.std.proofs.Common.{◌-◌, length}
use Rattle.pickcore.specs.Core.{machine_of}
use Rattle.pickcore.proofs.Running.{SoFar}
use Rattle.pickcore.proofs.state.Core.fill.Given as goal

abbrev pub invariant-loop-done : goal.invariant-loop-done
invariant-loop-done g l =
    SoFar g.S.Recovery.MARK l.program (machine_of g.S.Recovery.meaning l.initial.self) l.initial.data l.initial.records l.done l.records (machine_of g.S.Recovery.meaning l.self) l.data

abbrev pub decreases-loop-done : goal.decreases-loop-done
decreases-loop-done g l = length l.initial.records - l.done
