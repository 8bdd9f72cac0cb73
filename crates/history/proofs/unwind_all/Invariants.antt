use Rattle.std.proofs.Common.{◌≡◌}
use Rattle.history.specs.Unwind.{unwind}
use Rattle.history.proofs.unwind_all.Given as goal

-- what is left to unwind leaves what the whole would
abbrev pub invariant-loop-undone : goal.invariant-loop-undone
invariant-loop-undone l = unwind l.undone-iterator.iter.rest.now l.file ≡ unwind l.records l.initial.file
