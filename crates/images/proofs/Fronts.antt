-- Registers read from the front of the words.
use Rattle.std.proofs.Common.{◌≡◌, ℕ, ◌+◌, ◌-◌, ◌*◌, ◌<◌, ◌≤◌, List, [], ◌∷◌, ◌++◌, length, get_or, take, drop, set, Ok, Err, Result, sym, refl, ap, ◌∙◌, arith}
use Rattle.std.proofs.lemmas.List.{append_assoc, append-nil, take_all, take_more_set}
use Rattle.images.specs.declared.read.BadWord.{BadWord}
use Rattle.images.specs.Words.{then, register_read}
use Rattle.images.specs.Image.{onto, registers_read}

-- a register before those read from the rest
abbrev before : ℕ → Result (List ℕ) BadWord → Result (List ℕ) BadWord
before v q = then q (λ xs. Ok (v ∷ xs))

onto_next : (xs : List ℕ) (r v : ℕ) (q : Result (List ℕ) BadWord) → r < length xs → onto (set xs r v) (r + 1) q ≡ onto xs r (before v q)
onto_next xs r v (Ok ys) h = ap Ok (ap (λ zs. zs ++ ys) (take_more_set xs r v h) ∙ append_assoc (take r xs) (v ∷ []) ys)
onto_next xs r v (Err e) h = refl

-- with the first register in its place, the rest of the words give the others
pub next_read : (ws xs : List ℕ) (r v : ℕ) → 2 ≤ length ws → r < length xs → Ok v ≡ register_read (get_or ws 0 0) (get_or ws 1 0) r
    → onto (set xs r v) (r + 1) (registers_read (r + 1) (take (length ws - 2) (drop 2 ws))) ≡ onto xs r (registers_read r ws)
next_read [] xs r v h k e = absurd (omega arith)
next_read (x ∷ []) xs r v h k e = absurd (omega arith)
next_read (x ∷ (y ∷ ws)) xs r v h k e =
    let t : take (length (x ∷ (y ∷ ws)) - 2) ws ≡ ws = take_all _ ws (omega arith) in
    let f = sym e in
    rw (t, f, onto_next xs r v (registers_read (r + 1) ws) k)

-- no words are left after the sixteenth register
pub none_left : (ws xs : List ℕ) (r : ℕ) → length ws < 2 → length ws + 2 * r ≡ 32 → length xs ≡ 16 → Ok xs ≡ onto xs r (registers_read r ws)
none_left [] xs r h e l = sym (ap Ok (append-nil (take r xs) ∙ take_all r xs (omega arith)))
none_left (x ∷ []) xs r h e l = absurd (omega arith)
none_left (x ∷ (y ∷ ws)) xs r h e l = absurd (omega arith)
