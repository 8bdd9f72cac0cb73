-- The last that passes a test, and its index.
use Rattle.std.proofs.Common.{◌≡◌, ℕ, zero, suc, ◌+◌, ◌<◌, ◌≤◌, Bool, true, false, List, [], ◌∷◌, length, get_or, Some, None, Option, sym, refl, ap, ◌∙◌, add-one, arith}
use Rattle.std.specs.Prelude.{option_and_then, slice_get, cond}
use Rattle.std.proofs.lemmas.Option.{slice_get-get_or}
use Rattle.recovery.specs.Search.{or_else, last_of, last_index, behind}
use Rattle.recovery.proofs.Flights.{within}

module _ {A : Type 0} (p : A → Bool) (d : A) where
  -- none passes
  none_passes : (xs : List A) → ((k : ℕ) → k < length xs → p (get_or xs k d) ≡ false) → last_index p xs ≡ None
  none_passes [] h = refl
  none_passes (x ∷ xs) h =
      ap (λ o. behind o (p x)) (none_passes xs (λ k l. h (suc k) (omega arith))) ∙ ap (behind None) (h 0 (omega arith))

  -- the one at i passes, and none behind it
  last_passes : (xs : List A) (i : ℕ) → i < length xs → p (get_or xs i d) ≡ true → ((k : ℕ) → i + 1 ≤ k → k < length xs → p (get_or xs k d) ≡ false) → last_index p xs ≡ Some i
  last_passes [] i l t h = absurd (omega arith)
  last_passes (x ∷ xs) zero l t h =
      ap (λ o. behind o (p x)) (none_passes xs (λ k m. h (suc k) (omega arith) (omega arith))) ∙ ap (behind None) t
  last_passes (x ∷ xs) (suc i) l t h =
      ap (λ o. behind o (p x)) (last_passes xs i (omega arith) t (λ k n m. h (suc k) (omega arith) (omega arith))) ∙ ap Some (add-one i)

  pub last_index_by : (xs : List A) (o : Option ℕ)
      → (o ≡ None → (k : ℕ) → k < length xs → p (get_or xs k d) ≡ false)
      → ((i : ℕ) → o ≡ Some i → (i < length xs) × (p (get_or xs i d) ≡ true) × ((k : ℕ) → i + 1 ≤ k → k < length xs → p (get_or xs k d) ≡ false))
      → o ≡ last_index p xs
  last_index_by xs None n s = sym (none_passes xs (n refl))
  last_index_by xs (Some i) n s = let t = s i refl in sym (last_passes xs i t.0 t.1 t.2)

get_behind : {A : Type 0} (x : A) (xs : List A) (o : Option ℕ) (b : Bool) → ((i : ℕ) → o ≡ Some i → i < length xs) → option_and_then (slice_get (x ∷ xs)) (behind o b) ≡ or_else (option_and_then (slice_get xs) o) (cond b (Some x) None)
get_behind x xs (Some i) b h =
    let e = slice_get-get_or xs i x (h i refl) in
    ap (slice_get (x ∷ xs)) (add-one i) ∙ (e ∙ sym (ap (λ o. or_else o (cond b (Some x) None)) e))
get_behind x xs None true h = refl
get_behind x xs None false h = refl

-- the last that passes stands at the last index that does
pub get_last : {A : Type 0} (p : A → Bool) (xs : List A) → option_and_then (slice_get xs) (last_index p xs) ≡ last_of p xs
get_last p [] = refl
get_last p (x ∷ xs) =
    get_behind x xs (last_index p xs) (p x) (λ i e. within p xs i e)
    ∙ ap (λ o. or_else o (cond (p x) (Some x) None)) (get_last p xs)

pub get_last_at : {A : Type 0} (p : A → Bool) (xs : List A) (i : ℕ) → Some i ≡ last_index p xs → slice_get xs i ≡ last_of p xs
get_last_at p xs i h = ap (option_and_then (slice_get xs)) h ∙ get_last p xs
