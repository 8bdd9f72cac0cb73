use Rattle.std.proofs.Common.{◌≡◌, ℕ, ◌+◌, ◌-◌, ◌^◌, ◌<◌, ◌≤◌, List, [], ◌∷◌, ◌++◌, length, get_or, take, drop, set, sym, refl, ap, ◌∙◌, subst, arith}
use Rattle.std.proofs.lemmas.List.{take_more, take_all}
use Rattle.pickcore.specs.Calls.{report_answer}
use Rattle.pickcore.specs.Core.{machine_of}
use Rattle.jobs.specs.declared.call.Call.{Call}
use Rattle.jobs.specs.declared.call.Totals.{Totals}
use Rattle.jobs.specs.Play.{Plays, words_known, noted, counted, count_of}
use Rattle.jobs.proofs.Playing.{Going, going_none, going_more, used_more, copied_more, asked_running}
use Rattle.jobs.proofs.play.make_all.Goals as goal

one_more : (calls : List Call) (i : ℕ) (d : Call) → i < length calls → d ≡ get_or calls i d → take (i + 1) calls ≡ take i calls ++ (d ∷ [])
one_more calls i d l e = take_more calls i d l ∙ ap (λ x. take i calls ++ (x ∷ [])) (sym e)

pub loop-i-init : goal.loop-i-init
loop-i-init g c =
    subst (λ (t : Totals). Going g.S.Recovery.MARK c.args.program.now c.args.calls.now c.args.answers.now c.args.records.now c.args.copies.now (machine_of g.S.Recovery.meaning c.args.core.now) c.args.data.now 0 t c.args.answers.now c.args.records.now c.args.copies.now [] (machine_of g.S.Recovery.meaning c.args.core.now) c.args.data.now)
    (sym c.none-totals.ensures) (going_none g.S.Recovery.MARK c.args.program.now c.args.calls.now c.args.answers.now c.args.records.now c.args.copies.now (machine_of g.S.Recovery.meaning c.args.core.now) c.args.data.now)

pub note-requires : goal.note-requires
note-requires g c =
    let r = used_more g.S.Recovery.MARK c.args.program.now c.args.calls.now c.args.answers.now c.args.records.now c.args.copies.now (machine_of g.S.Recovery.meaning c.args.core.now) c.args.data.now c.loop-i.i c.loop-i.totals c.loop-i.answers c.loop-i.records c.loop-i.copies (words_known c.loop-i.last) (machine_of g.S.Recovery.meaning c.loop-i.core) c.loop-i.data c.loop-i.invariant c.loop-i.auto.records c.loop-i.auto.copies c.index-calls-i.result c.make-answer.result (length c.loop-i.records - c.loop-i.totals.records) (length c.loop-i.copies - c.loop-i.totals.words) c.make-answer.new.records c.make-answer.new.copies (take c.loop-i.totals.records c.loop-i.records ++ (c.make-answer.new.records ++ drop (length c.loop-i.records - c.loop-i.totals.records) (drop c.loop-i.totals.records c.loop-i.records))) (take c.loop-i.totals.words c.loop-i.copies ++ (c.make-answer.new.copies ++ drop (length c.loop-i.copies - c.loop-i.totals.words) (drop c.loop-i.totals.words c.loop-i.copies))) (machine_of g.S.Recovery.meaning c.make-answer.new.core) c.make-answer.new.data c.loop-i-test.true (omega arith) (one_more c.args.calls.now c.loop-i.i c.index-calls-i.result c.loop-i-test.true c.index-calls-i.is) refl refl c.make-answer.ensures refl refl c.make-answer.auto.records in
    let w = copied_more g.S.Recovery.MARK c.args.program.now c.args.calls.now c.args.answers.now c.args.records.now c.args.copies.now (machine_of g.S.Recovery.meaning c.args.core.now) c.args.data.now c.loop-i.i c.loop-i.totals c.loop-i.answers c.loop-i.records c.loop-i.copies (words_known c.loop-i.last) (machine_of g.S.Recovery.meaning c.loop-i.core) c.loop-i.data c.loop-i.invariant c.loop-i.auto.records c.loop-i.auto.copies c.index-calls-i.result c.make-answer.result (length c.loop-i.records - c.loop-i.totals.records) (length c.loop-i.copies - c.loop-i.totals.words) c.make-answer.new.records c.make-answer.new.copies (take c.loop-i.totals.records c.loop-i.records ++ (c.make-answer.new.records ++ drop (length c.loop-i.records - c.loop-i.totals.records) (drop c.loop-i.totals.records c.loop-i.records))) (take c.loop-i.totals.words c.loop-i.copies ++ (c.make-answer.new.copies ++ drop (length c.loop-i.copies - c.loop-i.totals.words) (drop c.loop-i.totals.words c.loop-i.copies))) (machine_of g.S.Recovery.meaning c.make-answer.new.core) c.make-answer.new.data c.loop-i-test.true (omega arith) (one_more c.args.calls.now c.loop-i.i c.index-calls-i.result c.loop-i-test.true c.index-calls-i.is) refl refl c.make-answer.ensures refl refl c.make-answer.auto.copies in
    let p = c.loop-i.invariant.reports in
    let x = c.loop-i.invariant.instructions in
    let y = c.loop-i.invariant.cycles in
    (omega arith, (omega arith, (omega arith, (omega arith, omega arith))))

pub bounds-answers-i : goal.bounds-answers-i
bounds-answers-i g c = let l = c.loop-i.auto.answers in let t = c.loop-i-test.true in let p = c.requires in omega arith

pub loop-i-preserved : goal.loop-i-preserved
loop-i-preserved g c =
    let n = machine_of g.S.Recovery.meaning c.loop-i.core in
    let o = machine_of g.S.Recovery.meaning c.make-answer.new.core in
    let ran : c.is_err-ran.result ≡ c.loop-i.core.running = c.is_err-ran.ensures.value ∙ asked_running n c.report.result c.report.ensures in
    let made : c.report_made.result ≡ counted c.loop-i.core.running (report_answer o) =
    c.report_made.ensures.value ∙ (ap (λ b. counted b c.report-in-loop-i.result) ran ∙ ap (counted c.loop-i.core.running) c.report-in-loop-i.ensures) in
    let few : count_of (counted c.loop-i.core.running (report_answer o)) ≤ 2 ^ 32 = subst (λ x. count_of x ≤ 2 ^ 32) made c.report_made.ensures.few in
    let on = going_more g.S.Recovery.MARK c.args.program.now c.args.calls.now c.args.answers.now c.args.records.now c.args.copies.now (machine_of g.S.Recovery.meaning c.args.core.now) c.args.data.now c.loop-i.i c.loop-i.totals c.loop-i.answers c.loop-i.records c.loop-i.copies (words_known c.loop-i.last) (machine_of g.S.Recovery.meaning c.loop-i.core) c.loop-i.data c.loop-i.invariant c.loop-i.auto.records c.loop-i.auto.copies c.index-calls-i.result c.make-answer.result (length c.loop-i.records - c.loop-i.totals.records) (length c.loop-i.copies - c.loop-i.totals.words) c.make-answer.new.records c.make-answer.new.copies (take c.loop-i.totals.records c.loop-i.records ++ (c.make-answer.new.records ++ drop (length c.loop-i.records - c.loop-i.totals.records) (drop c.loop-i.totals.records c.loop-i.records))) (take c.loop-i.totals.words c.loop-i.copies ++ (c.make-answer.new.copies ++ drop (length c.loop-i.copies - c.loop-i.totals.words) (drop c.loop-i.totals.words c.loop-i.copies))) (machine_of g.S.Recovery.meaning c.make-answer.new.core) c.make-answer.new.data c.loop-i-test.true (omega arith) (one_more c.args.calls.now c.loop-i.i c.index-calls-i.result c.loop-i-test.true c.index-calls-i.is) refl refl c.make-answer.ensures refl refl few c.note.ensures.short in
    subst (λ (t : Totals). Going g.S.Recovery.MARK c.args.program.now c.args.calls.now c.args.answers.now c.args.records.now c.args.copies.now (machine_of g.S.Recovery.meaning c.args.core.now) c.args.data.now (c.loop-i.i + 1) t (set c.loop-i.answers c.loop-i.i c.make-answer.result) (take c.loop-i.totals.records c.loop-i.records ++ (c.make-answer.new.records ++ drop (length c.loop-i.records - c.loop-i.totals.records) (drop c.loop-i.totals.records c.loop-i.records))) (take c.loop-i.totals.words c.loop-i.copies ++ (c.make-answer.new.copies ++ drop (length c.loop-i.copies - c.loop-i.totals.words) (drop c.loop-i.totals.words c.loop-i.copies))) (words_known c.newest_image-last.result) (machine_of g.S.Recovery.meaning c.make-answer.new.core) c.make-answer.new.data)
    (sym (c.note.ensures.totals ∙ ap (noted c.loop-i.totals c.make-answer.result) made))
    (subst (λ (ws : List ℕ). Going g.S.Recovery.MARK c.args.program.now c.args.calls.now c.args.answers.now c.args.records.now c.args.copies.now (machine_of g.S.Recovery.meaning c.args.core.now) c.args.data.now (c.loop-i.i + 1) (noted c.loop-i.totals c.make-answer.result (counted c.loop-i.core.running (report_answer (machine_of g.S.Recovery.meaning c.make-answer.new.core)))) (set c.loop-i.answers c.loop-i.i c.make-answer.result) (take c.loop-i.totals.records c.loop-i.records ++ (c.make-answer.new.records ++ drop (length c.loop-i.records - c.loop-i.totals.records) (drop c.loop-i.totals.records c.loop-i.records))) (take c.loop-i.totals.words c.loop-i.copies ++ (c.make-answer.new.copies ++ drop (length c.loop-i.copies - c.loop-i.totals.words) (drop c.loop-i.totals.words c.loop-i.copies))) ws (machine_of g.S.Recovery.meaning c.make-answer.new.core) c.make-answer.new.data)
    (sym c.newest_image-last.ensures) on)

pub returns : goal.returns
returns g c =
    let all = take_all c.loop-i.i c.args.calls.now c.loop-i-test.false in
    subst (λ (cs : List Call). Plays g.S.Recovery.MARK c.args.program.now cs c.args.answers.now c.args.records.now c.args.copies.now (machine_of g.S.Recovery.meaning c.args.core.now) c.args.data.now c.loop-i.totals c.loop-i.answers c.loop-i.records c.loop-i.copies (machine_of g.S.Recovery.meaning c.loop-i.core) c.loop-i.data) all c.loop-i.invariant.plays
