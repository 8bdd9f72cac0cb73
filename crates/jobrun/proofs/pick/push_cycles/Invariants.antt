use Rattle.std.proofs.Common.{◌≡◌, ◌++◌, take, string_bytes}
use Rattle.jobrun.specs.Runs.{cycle_lines}
use Rattle.jobrun.proofs.pick.push_cycles.Given as goal

abbrev pub invariant-loop-i : goal.invariant-loop-i
invariant-loop-i l = string_bytes l.text ≡ string_bytes l.initial.text ++ cycle_lines (take l.i l.records)
