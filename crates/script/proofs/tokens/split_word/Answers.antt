use Rattle.std.proofs.Common.{◌≡◌, ◌<◌, ◌∷◌, length, sym, ap, ◌∙◌, subst, arith, rules}
use Rattle.std.proofs.lemmas.Bool.{eqb-true, eqb-false}
use Rattle.script.specs.Tokens.{blank, inked, words_in, onward}
use Rattle.script.proofs.Pieces.{skip_blanks, first_word, FirstWord, no_words, onward_length}
use Rattle.script.proofs.tokens.split_word.Goals as goal

pub returns-then-is_empty : goal.returns-then-is_empty
returns-then-is_empty c =
    let ink = c.split_where.ensures inked (λ b r p. search rules) in
    let h : length c.split_where.result.1.now ≡ 0 = eqb-true _ _ (sym c.if-is_empty.ensures) in
    record { word = sym (skip_blanks c.args.bytes.now) ∙ (ap words_in (sym ink.1) ∙ no_words c.split_where.result.1.now h); shorter = omega arith }

pub returns : goal.returns
returns c =
    let ink = c.split_where.ensures inked (λ b r p. search rules) in
    let word = c.split_where-2.ensures blank (λ b r p. search rules) in
    let bytes = c.args.bytes.now in
    let code = c.split_where.result.1.now in
    let some : 0 < length c.split_where.result.1.now = omega (arith, eqb-false _ _ (sym c.if-is_empty.ensures)) in
    let f : FirstWord code = subst FirstWord (sym ink.1) (first_word bytes (subst (λ xs. 0 < length xs) ink.1 some)) in
    record {
      word = sym (skip_blanks bytes) ∙ (ap words_in (sym ink.1) ∙ (f.0
          ∙ (ap (λ w. w ∷ words_in (onward blank code)) (sym word.0) ∙ ap (λ r. c.split_where-2.result.0.now ∷ words_in r) (sym word.1))));
      shorter = omega (arith, f.1, ap length word.1, ap length ink.1, onward_length inked c.args.bytes.now);
    }
