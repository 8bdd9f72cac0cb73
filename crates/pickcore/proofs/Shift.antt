-- A list whose first element goes to the end and is overwritten there.
use Rattle.std.proofs.Common.{◌≡◌, ℕ, suc, List, [], ◌∷◌, ◌++◌, length, take, drop, set, refl, ap, ◌∙◌, subst, arith}

set_end : {X : Type 0} (l : List X) (x y : X) → set (l ++ (x ∷ [])) (length l) y ≡ l ++ (y ∷ [])
set_end [] x y = refl
set_end (z ∷ l) x y = ap (λ t. z ∷ t) (set_end l x y)

-- the first of n + 1 goes to the end, and is overwritten there
pub shift_end : {X : Type 0} (n : ℕ) (l t : List X) (y : X) → length l ≡ suc n → t ≡ drop 1 l ++ take 1 l → set t n y ≡ drop 1 l ++ (y ∷ [])
shift_end n [] t y h e = absurd (omega arith)
shift_end n (x ∷ l) t y h e =
    let k : length l ≡ n = omega arith in
    ap (λ s. set s n y) e ∙ subst (λ (m : ℕ). set (l ++ (x ∷ [])) m y ≡ l ++ (y ∷ [])) k (set_end l x y)
