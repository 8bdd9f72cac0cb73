use Rattle.std.proofs.Common.{◌≡◌, ◌<◌, map, length, vec_items, sym, ap, ◌∙◌, subst, arith}
use Rattle.std.proofs.lemmas.List.{map_push}
use Rattle.std.proofs.lemmas.Bool.{eqb-true, eqb-false}
use Rattle.script.specs.Tokens.{lines_of, words_in}
use Rattle.script.specs.Told.{found, asked, all_asked}
use Rattle.script.proofs.Asks.{calls_found, behind, calls_next, left_less, ended, behind_none, call_more, call_none, calls_end, wrong_line}
use Rattle.script.proofs.Pieces.{no_words}
use Rattle.script.proofs.calls.read_calls.Goals as goal

pub loop-reader-init : goal.loop-reader-init
loop-reader-init c =
    let e = c.next_line-line.ensures.line in (
      ap (λ xs. behind (map asked xs) (calls_found (found c.next_line-line.result c.next_line-line.new.self))) c.new-calls.ensures.items
          ∙ (behind_none (calls_found (found c.next_line-line.result c.next_line-line.new.self)) ∙ (ap calls_found e ∙ sym (calls_next c.args.reader.number (lines_of c.args.reader.rest.now)))),
      c.next_line-line.ensures.some,
      subst (λ f. length f.words ≡ 0 → length f.rest ≡ 0) (sym e) (ended c.args.reader.number (lines_of c.args.reader.rest.now)),
    )

pub loop-reader-smaller : goal.loop-reader-smaller
loop-reader-smaller c =
    let some : 0 < length c.loop-reader.line.code.now = omega (arith, eqb-false _ _ (sym c.loop-reader-test.ensures)) in
    left_less (found c.loop-reader.line c.loop-reader.reader) (found c.next_line-line-in-loop-reader.result c.next_line-line-in-loop-reader.new.self) (c.loop-reader.invariant.1 some) c.next_line-line-in-loop-reader.ensures.line

pub loop-reader-preserved : goal.loop-reader-preserved
loop-reader-preserved c =
    let some : 0 < length c.loop-reader.line.code.now = omega (arith, eqb-false _ _ (sym c.loop-reader-test.ensures)) in
    let e = c.next_line-line-in-loop-reader.ensures.line in (
      call_more (found c.loop-reader.line c.loop-reader.reader) (found c.next_line-line-in-loop-reader.result c.next_line-line-in-loop-reader.new.self) (map asked (vec_items c.loop-reader.calls)) (map asked (vec_items c.push.new.self)) (asked c.in_ok-read_call.field-0)
          (c.loop-reader.invariant.1 some) (sym c.in_ok-read_call.ensures) e
          (ap (map asked) c.in_ok-push.ensures.items ∙ map_push asked (vec_items c.loop-reader.calls) c.in_ok-read_call.field-0)
          ∙ c.loop-reader.invariant.0,
      c.next_line-line-in-loop-reader.ensures.some,
      subst (λ f. length f.words ≡ 0 → length f.rest ≡ 0) (sym e) (ended c.loop-reader.reader.number (lines_of c.loop-reader.reader.rest.now)),
    )

pub returns : goal.returns
returns c =
    let none : length c.loop-reader.line.code.now ≡ 0 = eqb-true _ _ (sym c.loop-reader-test.ensures) in
    let words : length (words_in c.loop-reader.line.code.now) ≡ 0 = ap length (no_words c.loop-reader.line.code.now none) in
    calls_end (found c.loop-reader.line c.loop-reader.reader) (map asked (vec_items c.loop-reader.calls)) words (c.loop-reader.invariant.2 words) ∙ c.loop-reader.invariant.0

pub returns-in_err-read_call : goal.returns-in_err-read_call
returns-in_err-read_call c =
    let some : 0 < length c.loop-reader.line.code.now = omega (arith, eqb-false _ _ (sym c.loop-reader-test.ensures)) in
    wrong_line asked all_asked c.loop-reader.line.number _ _ c.in_err-read_call.field-0.0 c.from_residual.result c.in_err-read_call.ensures c.from_residual.ensures.1
    (λ e. call_none (found c.loop-reader.line c.loop-reader.reader) (map asked (vec_items c.loop-reader.calls)) (c.loop-reader.invariant.1 some) (sym e) ∙ c.loop-reader.invariant.0)
