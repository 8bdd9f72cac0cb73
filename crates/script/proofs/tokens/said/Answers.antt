use Rattle.std.proofs.Common.{◌≡◌, ◌<◌, length, ap, ◌∙◌, subst, arith, rules}
use Rattle.script.specs.Tokens.{hash, inked, words_in, until, onward}
use Rattle.script.proofs.Pieces.{skip_blanks, first_word}
use Rattle.script.proofs.tokens.said.Goals as goal

pub returns : goal.returns
returns c =
    let code = until hash c.args.line.now in
    let uncommented = c.split_where.ensures hash (λ b r p. search rules) in
    let inked_on = c.split_where-2.ensures inked (λ b r p. search rules) in
    let e : c.split_where-2.result.1.now ≡ onward inked code = inked_on.1 ∙ ap (onward inked) uncommented.0 in
    let k = skip_blanks code in
    record {
      words = ap words_in e ∙ k;
      some = λ h. let f = first_word code (subst (λ xs. 0 < length xs) e h) in omega (arith, ap length k, ap length f.0);
    }
