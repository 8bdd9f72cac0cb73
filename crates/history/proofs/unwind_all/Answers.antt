use Rattle.std.proofs.Common.{sym, ap, ◌∙◌}
use Rattle.history.specs.Unwind.{unwind}
use Rattle.history.specs.Unwinding.{unwind_push}
use Rattle.history.proofs.unwind_all.Goals as goal

pub loop-undone-preserved : goal.loop-undone-preserved
loop-undone-preserved c =
    ap (unwind c.next.new.self.iter.rest.now) c.put_word.ensures
    ∙ (sym (unwind_push c.in-Some.undone.now c.next.new.self.iter.rest.now c.loop-undone.file)
    ∙ (sym (ap (λ xs. unwind xs c.loop-undone.file) c.in-Some.ensures.steps) ∙ c.loop-undone.invariant))
