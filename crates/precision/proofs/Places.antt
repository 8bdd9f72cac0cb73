-- Where taken stages stand: none past the longest delay, and each one place nearer as the stages move on.
use Rattle.std.proofs.Common.{◌≡◌, ℕ, zero, suc, ◌<◌, Bool, true, false, cond, ◌||◌, eqb, List, [], ◌∷◌, ◌++◌, length, get_or, drop, set, replicate, Some, None, Option, refl, ap, arith}
use Rattle.std.proofs.lemmas.Bool.{or_left, or_right, both_ways, cond-false, eq-eqb}
use Rattle.pickcore.specs.declared.stages.Stage.{Stage}
use Rattle.pickcore.specs.Sound.{staged}
use Rattle.precision.specs.Waits.{Within, place}

-- the taken stages stay within the longest delay

pub within_none : (n m : ℕ) → Within n (replicate m None)
within_none n zero = tt
within_none zero (suc m) = within_none zero m
within_none (suc n) (suc m) = within_none n m

within_more : (n : ℕ) (xs : List (Option Stage)) → Within n xs → Within (suc n) xs
within_more n [] w = tt
within_more zero (None ∷ xs) w = w
within_more zero (Some x ∷ xs) w = absurd w
within_more (suc n) (x ∷ xs) w = within_more n xs w

within_end : (n : ℕ) (xs : List (Option Stage)) → Within n xs → Within n (xs ++ (None ∷ []))
within_end zero [] w = tt
within_end (suc n) [] w = tt
within_end zero (None ∷ xs) w = within_end zero xs w
within_end zero (Some x ∷ xs) w = w
within_end (suc n) (x ∷ xs) w = within_end n xs w

pub within_moved : (n : ℕ) (xs : List (Option Stage)) → Within n xs → Within n (drop 1 (set xs 0 None) ++ (None ∷ []))
within_moved n [] w = within_end n [] w
within_moved zero (None ∷ xs) w = within_end zero xs w
within_moved zero (Some x ∷ xs) w = absurd w
within_moved (suc n) (x ∷ xs) w = within_end (suc n) xs (within_more n xs w)

pub within_set : (n i : ℕ) (xs : List (Option Stage)) (o : Option Stage) → i < n → Within n xs → Within n (set xs i o)
within_set n i [] o l w = tt
within_set zero i (x ∷ xs) o l w = absurd (omega arith)
within_set (suc n) zero (x ∷ xs) o l w = w
within_set (suc n) (suc i) (x ∷ xs) o l w = within_set n i xs o (omega arith) w

-- where a tag's stage is

none_within : (t : ℕ) (xs : List (Option Stage)) → Within zero xs → staged t xs ≡ false
none_within t [] w = refl
none_within t (None ∷ xs) w = none_within t xs w
none_within t (Some x ∷ xs) w = absurd w

pub place_within : (n t : ℕ) (xs : List (Option Stage)) → Within n xs → staged t xs ≡ true → place t xs < n
place_within n t [] w h = absurd (both_ways false refl h)
place_within zero t (None ∷ xs) w h = absurd (both_ways (staged t xs) (none_within t xs w) h)
place_within zero t (Some x ∷ xs) w h = absurd w
place_within (suc n) t (None ∷ xs) w h = let k = place_within n t xs w h in omega arith
place_within (suc n) t (Some x ∷ xs) w h = by (eqb x.tag t) h (place_within n t xs w)
  where
    by : (b : Bool) → (b || staged t xs) ≡ true → (staged t xs ≡ true → place t xs < n) → cond b 0 (suc (place t xs)) < suc n
    by true h rest = omega arith
    by false h rest = let k = rest h in omega arith

place_end : (t : ℕ) (xs : List (Option Stage)) → staged t xs ≡ true → place t (xs ++ (None ∷ [])) ≡ place t xs
place_end t [] h = absurd (both_ways false refl h)
place_end t (None ∷ xs) h = ap suc (place_end t xs h)
place_end t (Some x ∷ xs) h = by (eqb x.tag t) h (place_end t xs)
  where
    by : (b : Bool) → (b || staged t xs) ≡ true → (staged t xs ≡ true → place t (xs ++ (None ∷ [])) ≡ place t xs) → cond b 0 (suc (place t (xs ++ (None ∷ [])))) ≡ cond b 0 (suc (place t xs))
    by true h rest = refl
    by false h rest = ap suc (rest h)

-- a stage that is not the first moves one place on
pub place_moved : (t : ℕ) (xs : List (Option Stage)) → staged t xs ≡ true → 0 < place t xs → place t (drop 1 (set xs 0 None) ++ (None ∷ [])) < place t xs
place_moved t [] h l = absurd (both_ways false refl h)
place_moved t (None ∷ xs) h l = let e = place_end t xs h in omega arith
place_moved t (Some x ∷ xs) h l = by (eqb x.tag t) h l
  where
    by : (b : Bool) → (b || staged t xs) ≡ true → 0 < cond b 0 (suc (place t xs)) → place t (xs ++ (None ∷ [])) < cond b 0 (suc (place t xs))
    by true h l = absurd (omega arith)
    by false h l = let e = place_end t xs h in omega arith

pub place_set : (t i : ℕ) (x : Stage) (xs : List (Option Stage)) → get_or xs i None ≡ None → eqb x.tag t ≡ false → place t (set xs i (Some x)) ≡ place t xs
place_set t i x [] h n = refl
place_set t zero x (None ∷ xs) h n = cond-false (eqb x.tag t) 0 (suc (place t xs)) n
place_set t zero x (Some y ∷ xs) h n = let z : ◌≡◌ {A = ℕ} 0 1 = cc in absurd (omega arith)
place_set t (suc i) x (None ∷ xs) h n = ap suc (place_set t i x xs h n)
place_set t (suc i) x (Some y ∷ xs) h n = ap (λ k. cond (eqb y.tag t) 0 (suc k)) (place_set t i x xs h n)

pub staged_set : (x : Stage) (i : ℕ) (xs : List (Option Stage)) → i < length xs → staged x.tag (set xs i (Some x)) ≡ true
staged_set x i [] l = absurd (omega arith)
staged_set x zero (o ∷ xs) l = or_left (eqb x.tag x.tag) (staged x.tag xs) (eq-eqb x.tag x.tag refl)
staged_set x (suc i) (None ∷ xs) l = staged_set x i xs (omega arith)
staged_set x (suc i) (Some y ∷ xs) l = or_right (eqb y.tag x.tag) (staged x.tag (set xs i (Some x))) (staged_set x i xs (omega arith))
