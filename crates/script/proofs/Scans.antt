-- Scanning a list to the first byte that stops.
use Rattle.std.proofs.Common.{◌≡◌, ℕ, ◌<◌, Bool, true, false, List, [], ◌∷◌, length, get_or, take, drop, Some, None, Option, sym, refl, ap, ◌∙◌, arith, suc, zero}
use Rattle.std.specs.Option.{MatchOption, unwrap_or}
use Rattle.std.specs.List.{AllWithin, HoldsAt}
use Rattle.std.proofs.lemmas.Bool.{cond-true, cond-false}
use Rattle.std.proofs.lemmas.List.{take_all, drop_all}
use Rattle.script.specs.Tokens.{until, onward}

-- how a list is split at i
abbrev pub SplitAt : (ℕ → Bool) → List ℕ → ℕ → Type 0
SplitAt stop xs i = (take i xs ≡ until stop xs) × (drop i xs ≡ onward stop xs)

none_stops : (stop : ℕ → Bool) (xs : List ℕ) → ((k : ℕ) → k < length xs → stop (get_or xs k 0) ≡ false) → (until stop xs ≡ xs) × (onward stop xs ≡ [])
none_stops stop [] passed = (refl, refl)
none_stops stop (x ∷ xs) passed =
    let h = none_stops stop xs (λ k l. passed (suc k) (omega arith)) in
    let e = passed 0 (omega arith) in
    (cond-false (stop x) [] (x ∷ until stop xs) e ∙ ap (λ ys. x ∷ ys) h.0, cond-false (stop x) (x ∷ xs) (onward stop xs) e ∙ h.1)

first_stops : (stop : ℕ → Bool) (xs : List ℕ) (i : ℕ) → i < length xs → stop (get_or xs i 0) ≡ true → ((k : ℕ) → k < i → stop (get_or xs k 0) ≡ false) → SplitAt stop xs i
first_stops stop [] i l stops passed = absurd (omega arith)
first_stops stop (x ∷ xs) zero l stops passed = (sym (cond-true (stop x) [] (x ∷ until stop xs) stops), sym (cond-true (stop x) (x ∷ xs) (onward stop xs) stops))
first_stops stop (x ∷ xs) (suc i) l stops passed =
    let h = first_stops stop xs i (omega arith) stops (λ k m. passed (suc k) (omega arith)) in
    let e = passed 0 (omega arith) in
    (ap (λ ys. x ∷ ys) h.0 ∙ sym (cond-false (stop x) [] (x ∷ until stop xs) e), h.1 ∙ sym (cond-false (stop x) (x ∷ xs) (onward stop xs) e))

-- where the first byte that stops was looked for, and the whole list is taken where there is none
pub split_first : (stop : ℕ → Bool) (xs : List ℕ) (r : Option ℕ) → MatchOption r (AllWithin (λ b. stop b ≡ false) xs 0 (length xs)) (λ i. (i < length xs) × HoldsAt (λ b. stop b ≡ true) xs i × AllWithin (λ b. stop b ≡ false) xs 0 i)
    → SplitAt stop xs (unwrap_or r (length xs))
split_first stop xs None h =
    let n = none_stops stop xs (λ k l. h k 0 (omega arith) l) in
    (take_all (length xs) xs (omega arith) ∙ sym n.0, drop_all (length xs) xs (omega arith) ∙ sym n.1)
split_first stop xs (Some i) h = first_stops stop xs i h.0 (h.1 0) (λ k l. h.2 k 0 (omega arith) l)
