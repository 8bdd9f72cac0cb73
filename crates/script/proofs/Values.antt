-- The value of digits.
use Rattle.std.proofs.Common.{◌≡◌, ℕ, ◌+◌, ◌-◌, ◌*◌, ◌^◌, ◌<◌, ◌≤◌, cond, ◌&&◌, eqb, ltb, List, [], ◌∷◌, length, get_or, take, drop, Some, None, sym, refl, ap, ◌∙◌, mul-le-mul_left, arith}
use Rattle.std.proofs.lemmas.List.{at_drop_more, at_drop_all, take_rest}
use Rattle.std.proofs.lemmas.Bool.{cond-true, cond-false, cond_both, le-ltb, lt-ltb, eq-eqb, and_from}
use Rattle.std.specs.Char.{digit_value}
use Rattle.script.specs.Numerals.{value_from, fitting, numeral, number_of}

grows : (v base d : ℕ) → 1 ≤ base → v ≤ v * base + d
grows v base d h = let m : v * 1 ≤ v * base = mul-le-mul_left v h in omega arith

-- a value above 32 bits does not come back
pub too_large : (base v : ℕ) (bs : List ℕ) → 1 ≤ base → 2 ^ 32 ≤ v → fitting (value_from base v bs) ≡ None
too_large base v [] h k = cond-false _ _ _ (le-ltb v (2 ^ 32) k)
too_large base v (b ∷ bs) h k =
    cond_both (ltb (digit_value b) base) (value_from base (v * base + digit_value b) bs) None (λ o. fitting o ≡ None)
    (λ e. too_large base (v * base + digit_value b) bs h (omega (arith, grows v base (digit_value b) h))) (λ e. refl)

pub numeral_is : (base : ℕ) (bs : List ℕ) → 0 < length bs → numeral base bs ≡ fitting (value_from base 0 bs)
numeral_is base [] h = absurd (omega arith)
numeral_is base (b ∷ bs) h = refl

-- the digit at i, behind digits that are worth v
module _ (base v i d : ℕ) (bs : List ℕ) (at : d ≡ digit_value (get_or bs i 0)) (h : i < length bs) where
  digit_step : d < base → value_from base v (drop i bs) ≡ value_from base (v * base + d) (drop (i + 1) bs)
  digit_step k =
      at_drop_more (value_from base v) bs i 0 h
      ∙ (ap (λ x. cond (ltb x base) (value_from base (v * base + x) (drop (i + 1) bs)) None) (sym at) ∙ cond-true (ltb d base) (value_from base (v * base + d) (drop (i + 1) bs)) None (lt-ltb d base k))

  pub digit_more : (next : ℕ) → d < base → next ≡ v * base + d → fitting (value_from base next (drop (i + 1) bs)) ≡ fitting (value_from base v (drop i bs))
  digit_more next k e = ap (λ x. fitting (value_from base x (drop (i + 1) bs))) e ∙ sym (ap fitting (digit_step k))

  pub digit_large : 1 ≤ base → d < base → 2 ^ 32 ≤ v * base + d → None ≡ fitting (value_from base v (drop i bs))
  digit_large b k l = sym (ap fitting (digit_step k) ∙ too_large base (v * base + d) (drop (i + 1) bs) b l)

  pub digit_none : base ≤ d → None ≡ fitting (value_from base v (drop i bs))
  digit_none k =
      sym (ap fitting (at_drop_more (value_from base v) bs i 0 h
      ∙ (ap (λ x. cond (ltb x base) (value_from base (v * base + x) (drop (i + 1) bs)) None) (sym at) ∙ cond-false (ltb d base) (value_from base (v * base + d) (drop (i + 1) bs)) None (le-ltb d base k))))

pub digits_all : (base v i : ℕ) (bs : List ℕ) → length bs ≤ i → v < 2 ^ 32 → Some v ≡ fitting (value_from base v (drop i bs))
digits_all base v i bs h k = sym (ap fitting (at_drop_all (value_from base v) bs i h) ∙ cond-true _ _ _ (lt-ltb v (2 ^ 32) k))

-- a number behind `0x`
pub hexadecimal : (w : List ℕ) → 2 ≤ length w → get_or w 0 0 ≡ 48 → get_or w 1 0 ≡ 120 → number_of w ≡ numeral 16 (take (length w - 2) (drop 2 w))
hexadecimal [] h a b = absurd (omega arith)
hexadecimal (x ∷ []) h a b = absurd (omega arith)
hexadecimal (x ∷ (y ∷ ys)) h a b =
    cond-true (eqb x 48 && eqb y 120) (numeral 16 ys) (numeral 10 (x ∷ (y ∷ ys))) (and_from _ _ (eq-eqb x 48 a) (eq-eqb y 120 b)) ∙ ap (numeral 16) (sym (take_rest (x ∷ (y ∷ ys)) 2))
