use Rattle.std.proofs.Common.{◌≡◌, ◌++◌, string_bytes}
use Rattle.deskrun.specs.Desk.{answers_text}
use Rattle.deskrun.proofs.desk.push_answers.Given as goal

-- what is written, and the lines to come, are the whole
abbrev pub invariant-loop-call : goal.invariant-loop-call
invariant-loop-call l =
    string_bytes l.text ++ answers_text l.call-iterator.a.rest.now l.call-iterator.b.rest.now l.records l.copies
    ≡ string_bytes l.initial.text ++ answers_text l.fn.made.calls.now l.fn.made.answers.now l.fn.made.records.now l.fn.made.copies.now
