use Rattle.std.proofs.Common.{◌≡◌, ◌*◌, ◌^◌, ◌<◌, ◌++◌, length, take, Ok, IfSome, string_bytes, ap, ◌∙◌, subst}
use Rattle.std.specs.Option.{SomeIff}
use Rattle.std.proofs.lemmas.List.{with_items_is}
use Rattle.std.proofs.lemmas.Result.{IfOk-weaker}
use Rattle.pickcore.specs.Core.{machine_of}
use Rattle.printing.specs.Lines.{load_line, totals_line}
use Rattle.deskrun.specs.Desk.{cycles_asked, copies_asked, answers_text, TellsOn}
use Rattle.deskrun.proofs.Telling.{tells}
use Rattle.deskrun.proofs.desk.tell_on.Goals as goal

pub returns-in-Ok : goal.returns-in-Ok
returns-in-Ok g c =
    let calls = c.as_slice-calls.result.now in
    let t = c.in-Ok.totals in
    let cycles : c.in_ok-cycles.cycles ≡ cycles_asked c.as_slice-calls.result.now = subst (λ o. IfSome o (λ n. n ≡ cycles_asked c.as_slice-calls.result.now)) c.in_ok-cycles.ensures.ok_part c.cycles_asked.ensures in
    let fits = subst (λ o. SomeIff o (c.copies_asked.result * length c.as_mut_slice-data.result.now < 2 ^ 64) (c.copies_asked.result * length c.as_mut_slice-data.result.now)) c.in_ok-words.ensures.ok_part c.checked_mul.ensures in
    let words : c.in_ok-words.words ≡ copies_asked c.as_slice-calls.result.now * length c.as_mut_slice-data.result.now = fits.1 ∙ ap (λ n. n * length c.as_mut_slice-data.result.now) c.copies_asked.ensures in
    let a : c.as_slice.result.now ≡ c.play-played.new.answers = c.as_slice.ensures.value ∙ with_items_is c.in_ok-answers.answers c.play-played.new.answers (c.play-played.auto.answers ∙ c.as_mut_slice.ensures.len) in
    let r : c.as_slice-in-Ok.result.now ≡ c.play-played.new.records = c.as_slice-in-Ok.ensures.value ∙ with_items_is c.in_ok-records.records c.play-played.new.records (c.play-played.auto.records ∙ c.as_mut_slice-2.ensures.len) in
    let p : c.as_slice-in-Ok-2.result.now ≡ c.play-played.new.copies = c.as_slice-in-Ok-2.ensures.value ∙ with_items_is c.in_ok-copies.copies c.play-played.new.copies (c.play-played.auto.copies ∙ c.as_mut_slice-3.ensures.len) in
    IfOk-weaker c.tell_played.result _ _
    (λ s e.
    subst (λ x. TellsOn g.S.Recovery.MARK c.args.script.setting.delays c.args.script.setting.capacity x c.args.script.«data».items c.args.script.calls.items (string_bytes s)) c.as_slice-program.ensures.value
    (subst (λ x. TellsOn g.S.Recovery.MARK c.args.script.setting.delays c.args.script.setting.capacity c.as_slice-program.result.now x c.args.script.calls.items (string_bytes s)) c.as_mut_slice-data.ensures.value
    (subst (λ x. TellsOn g.S.Recovery.MARK c.args.script.setting.delays c.args.script.setting.capacity c.as_slice-program.result.now c.as_mut_slice-data.result.now x (string_bytes s)) c.as_slice-calls.ensures.value
    (tells g.S.Recovery.MARK c.args.script.setting.delays c.args.script.setting.capacity c.as_slice-program.result.now c.as_mut_slice-data.result.now c.as_slice-calls.result.now c.as_mut_slice.result.now c.as_mut_slice-2.result.now c.as_mut_slice-3.result.now
    (machine_of g.S.Recovery.meaning c.new-core.result) c.new-setup.result t c.play-played.new.answers c.play-played.new.records c.play-played.new.copies
    (machine_of g.S.Recovery.meaning c.play-played.new.core) c.play-played.new.data (string_bytes s)
    c.new-core.ensures c.new-setup.ensures (c.as_mut_slice-2.ensures.len ∙ (c.in_ok-records.ensures.len ∙ cycles)) (c.as_mut_slice-3.ensures.len ∙ (c.in_ok-copies.ensures.len ∙ words)) (c.as_mut_slice.ensures.len ∙ c.in_ok-answers.ensures.len) c.in-Ok.ensures.outcome
    (e ∙ (ap (λ xs. load_line (Ok tt) ++ (answers_text calls xs (take t.records c.as_slice-in-Ok.result.now) (take t.words c.as_slice-in-Ok-2.result.now) ++ totals_line t.reports t.instructions t.cycles)) a
    ∙ (ap (λ xs. load_line (Ok tt) ++ (answers_text calls c.play-played.new.answers (take t.records xs) (take t.words c.as_slice-in-Ok-2.result.now) ++ totals_line t.reports t.instructions t.cycles)) r
    ∙ ap (λ xs. load_line (Ok tt) ++ (answers_text calls c.play-played.new.answers (take t.records c.play-played.new.records) (take t.words xs) ++ totals_line t.reports t.instructions t.cycles)) p)))))))
    c.tell_played.ensures
