use Rattle.std.proofs.Common.{◌≡◌, ◌<◌, length, sym, ap, ◌∙◌, arith}
use Rattle.std.proofs.lemmas.Bool.{eqb-true, eqb-false}
use Rattle.script.proofs.Pieces.{no_words}
use Rattle.script.proofs.Spoken.{line_passed, line_found, lines_end}
use Rattle.script.proofs.reader.Reader.next_line.Goals as goal

pub returns : goal.returns
returns c = record {
  line = lines_end c.loop-line.self.number c.loop-line.self.rest.now c.in_default.ensures.shorter ∙ c.loop-line.invariant;
  some = λ h. absurd (omega (arith, c.in_default.ensures.shorter));
}

pub returns-then-not-is_empty : goal.returns-then-not-is_empty
returns-then-not-is_empty c =
    let some : 0 < length c.said-code.result.now = omega (arith, eqb-false _ _ (sym c.if-not-is_empty.ensures)) in
    let words = c.said-code.ensures.some some in
    record {
      line = line_found c.loop-line.self.number c.loop-line.self.rest.now c.in-Some.line.now c.said-code.result.now c.in-Some.behind.now c.in-Some.ensures.line c.said-code.ensures.words words ∙ c.loop-line.invariant;
      some = λ h. omega (arith, words, ap length c.said-code.ensures.words);
    }

pub loop-line-preserved : goal.loop-line-preserved
loop-line-preserved c =
    let none : length c.said-code.result.now ≡ 0 = eqb-true _ _ (sym c.if-not-is_empty.ensures) in
    sym (line_passed c.loop-line.self.number c.loop-line.self.rest.now c.in-Some.line.now c.in-Some.behind.now c.in-Some.ensures.line (sym c.said-code.ensures.words ∙ no_words c.said-code.result.now none))
    ∙ c.loop-line.invariant
