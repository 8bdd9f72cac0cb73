use Rattle.std.proofs.Common.{◌≡◌, ◌++◌, take, string_bytes}
use Rattle.jobfile.specs.Lines.{numbered}
use Rattle.printing.specs.Lines.{cycle_line}
use Rattle.printing.proofs.answers.push_run.Given as goal

abbrev pub invariant-loop-i : goal.invariant-loop-i
invariant-loop-i l = string_bytes l.text ≡ string_bytes l.initial.text ++ numbered cycle_line 1 (take l.i l.records)
