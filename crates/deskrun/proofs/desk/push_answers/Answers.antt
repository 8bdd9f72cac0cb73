use Rattle.std.proofs.Common.{inl, inr, string_bytes, refl, ap, take, drop, ◌∙◌}
use mathlib.Core.Logic.{⊎_elim}
use Rattle.deskrun.proofs.Texts.{text_more, text_all}
use Rattle.deskrun.proofs.desk.push_answers.Goals as goal

pub loop-call-preserved : goal.loop-call-preserved
loop-call-preserved c =
    let steps = c.in-Some.ensures.steps in
    text_more c.in-Some.call.now c.in-Some.answer.now _ _ _ _ c.loop-call.records.now c.parts.result.0.now c.parts.result.1.now c.loop-call.copies.now c.parts-in-loop-call.result.0.now c.parts-in-loop-call.result.1.now
    (string_bytes c.loop-call.text) (string_bytes c.push_answer.new.text) _ steps.0 steps.1
    (c.parts.ensures.front ∙ ap (λ n. take n c.loop-call.records.now) c.records.ensures) (c.parts.ensures.back ∙ ap (λ n. drop n c.loop-call.records.now) c.records.ensures)
    (c.parts-in-loop-call.ensures.front ∙ ap (λ n. take n c.loop-call.copies.now) c.copies.ensures) (c.parts-in-loop-call.ensures.back ∙ ap (λ n. drop n c.loop-call.copies.now) c.copies.ensures)
    (c.in_ok-push_answer.ensures refl) c.loop-call.invariant

pub returns : goal.returns
returns c = λ _.
    text_all c.loop-call.call-iterator.a.rest.now c.loop-call.call-iterator.b.rest.now c.loop-call.records.now c.loop-call.copies.now (string_bytes c.loop-call.text) _
    (⊎_elim (λ left. inl left.1.0) (λ left. inr left.1.0) c.in-None.ensures.steps) c.loop-call.invariant
