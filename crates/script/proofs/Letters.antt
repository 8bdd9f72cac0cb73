-- A word, from its letters one by one.
use Rattle.std.proofs.Common.{◌≡◌, ℕ, ◌+◌, List, [], ◌∷◌, length, get_or, drop, ap, ◌∙◌, arith}
use Rattle.std.specs.Prelude.{⊤}
use Rattle.std.proofs.lemmas.List.{drop_more, drop_all}

-- the letters of a word from the i-th on
abbrev pub Letters : List ℕ → ℕ → List ℕ → Type 0
Letters w i [] = ⊤
Letters w i (l ∷ ls) = (get_or w i 0 ≡ l) × Letters w (i + 1) ls

spelled : (w : List ℕ) (i : ℕ) (ls : List ℕ) → length w ≡ i + length ls → Letters w i ls → drop i w ≡ ls
spelled w i [] n h = drop_all i w (omega arith)
spelled w i (l ∷ ls) n h = drop_more w i 0 (omega arith) ∙ (ap (λ x. x ∷ drop (i + 1) w) h.0 ∙ ap (λ xs. l ∷ xs) (spelled w (i + 1) ls (omega arith) h.1))

pub is_spelled : (w ls : List ℕ) → length w ≡ length ls → Letters w 0 ls → w ≡ ls
is_spelled w ls n h = spelled w 0 ls (omega arith) h
