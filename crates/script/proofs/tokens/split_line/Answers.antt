use Rattle.std.proofs.Common.{◌≡◌, ◌<◌, ◌∷◌, length, sym, ap, ◌∙◌, arith, ltb-true, rules}
use Rattle.std.proofs.lemmas.List.{take_rest}
use Rattle.std.proofs.lemmas.Bool.{eqb-true, eqb-false}
use Rattle.script.specs.Tokens.{newline, lines_of}
use Rattle.script.proofs.Pieces.{first_line, drop_end, no_lines}
use Rattle.script.proofs.tokens.split_line.Goals as goal

pub returns-then-is_empty : goal.returns-then-is_empty
returns-then-is_empty c =
    let h : length c.args.text.now ≡ 0 = eqb-true _ _ (sym c.if-is_empty.ensures) in
    record { line = no_lines c.args.text.now h; shorter = h }

pub returns-in-empty : goal.returns-in-empty
returns-in-empty c =
    let some : 0 < length c.args.text.now = omega (arith, eqb-false _ _ (sym c.if-is_empty.ensures)) in
    let none : length c.split_where.result.1.now ≡ 0 = omega (arith, ltb-true) in
    let split = c.split_where.ensures newline (λ b r p. search rules) in
    let f = first_line c.args.text.now c.split_where.result.0.now c.split_where.result.1.now some split.0 split.1 in
    let e = drop_end c.split_where.result.1.now none in
    record { line = f.0 ∙ ap (λ xs. c.split_where.result.0.now ∷ lines_of xs) e; shorter = omega (arith, f.1, ap length e) }

pub returns-in-len1-up : goal.returns-in-len1-up
returns-in-len1-up c =
    let some : 0 < length c.args.text.now = omega (arith, eqb-false _ _ (sym c.if-is_empty.ensures)) in
    let split = c.split_where.ensures newline (λ b r p. search rules) in
    let f = first_line c.args.text.now c.split_where.result.0.now c.split_where.result.1.now some split.0 split.1 in
    let e = sym (take_rest c.split_where.result.1.now 1) in
    record { line = f.0 ∙ ap (λ xs. c.split_where.result.0.now ∷ lines_of xs) e; shorter = omega (arith, f.1, ap length e) }
