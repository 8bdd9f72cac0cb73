-- A word of 32 bits in eight hexadecimal digits.
use Rattle.std.proofs.Common.{◌≡◌, ℕ, ◌+◌, ◌-◌, ◌/◌, ◌%◌, ◌^◌, ◌<◌, ◌≤◌, false, eqb, List, [], ◌∷◌, ◌++◌, length, replicate, codes, suc, zero, sym, refl, ap, ◌∙◌, subst, append_assoc, append-nil, arith}
use Rattle.std.specs.Fmt.{digits, digits_onto, digit_glyph, padded_integral, char_count, format_spec}
use Rattle.std.proofs.lemmas.List.{replicate_more}
use Rattle.std.proofs.lemmas.Bool.{cond_both, cond-true, eq-eqb, eqb-true}
use Rattle.jobfile.specs.Lines.{hex_byte, hex_word}

-- the last k digits of n in front of others
abbrev last_digits : ℕ → ℕ → List ℕ → List ℕ
last_digits zero n ds = ds
last_digits (suc k) n ds = last_digits k (n / 16) (digit_glyph false (n % 16) ∷ ds)

zeros : (k : ℕ) (ds : List ℕ) → last_digits k 0 ds ≡ replicate k 48 ++ ds
zeros zero ds = refl
zeros (suc k) ds =
    let one : k + 1 ≡ suc k = omega arith in
    zeros k (48 ∷ ds) ∙ (sym (append_assoc (replicate k 48) (48 ∷ []) ds) ∙ (ap (λ zs. zs ++ ds) (replicate_more k 48) ∙ ap (λ j. replicate j 48 ++ ds) one))

-- these are the last digits of n, at most k, and zeros in front would make them k
record Filled (k n : ℕ) (ds all : List ℕ) : Type 0 where
  pub many : ℕ
  pub few : many ≤ k
  pub counted : length all ≡ many + length ds
  pub filled : replicate (k - many) 48 ++ all ≡ last_digits k n ds

last_one : (k n : ℕ) (ds : List ℕ) → n / 16 ≡ 0 → Filled (suc k) n ds (digit_glyph false (n % 16) ∷ ds)
last_one k n ds e =
    let d = digit_glyph false (n % 16) in
    let less : suc k - 1 ≡ k = omega arith in
    record {
      many = 1;
      few = omega arith;
      counted = omega arith;
      filled = ap (λ j. replicate j 48 ++ (d ∷ ds)) less ∙ (sym (zeros k (d ∷ ds)) ∙ ap (λ m. last_digits k m (d ∷ ds)) (sym e));
    }

one_more : (k n : ℕ) (ds all : List ℕ) → Filled k (n / 16) (digit_glyph false (n % 16) ∷ ds) all → Filled (suc k) n ds all
one_more k n ds all p =
    let less : suc k - suc p.many ≡ k - p.many = omega arith in
    record { many = suc p.many; few = omega (arith, p.few); counted = omega (arith, p.counted); filled = ap (λ j. replicate j 48 ++ all) less ∙ p.filled }

fills : (k fuel n : ℕ) (ds : List ℕ) → n < 16 ^ suc k → k < fuel → Filled (suc k) n ds (digits_onto fuel 16 false n ds)
fills k zero n ds h f = absurd (omega arith)
fills zero (suc fuel) n ds h f =
    let e : n / 16 ≡ 0 = omega arith in
    subst (Filled 1 n ds) (sym (cond-true (eqb (n / 16) 0) (digit_glyph false (n % 16) ∷ ds) (digits_onto fuel 16 false (n / 16) (digit_glyph false (n % 16) ∷ ds)) (eq-eqb _ _ e))) (last_one 0 n ds e)
fills (suc k) (suc fuel) n ds h f =
    cond_both (eqb (n / 16) 0) (digit_glyph false (n % 16) ∷ ds) (digits_onto fuel 16 false (n / 16) (digit_glyph false (n % 16) ∷ ds)) (Filled (suc (suc k)) n ds)
    (λ e. last_one (suc k) n ds (eqb-true _ _ e))
    (λ e. one_more (suc k) n ds _ (fills k fuel (n / 16) (digit_glyph false (n % 16) ∷ ds) (omega arith) (omega arith)))

digits_filled : (n : ℕ) → n < 2 ^ 32 → Filled 8 n [] (digits 16 false n)
unfolding digits
digits_filled n h = fills 7 64 n [] (omega arith) (omega arith)

two_digits : (k n : ℕ) (ds : List ℕ) → last_digits (suc (suc k)) n ds ≡ last_digits k (n / 256) (hex_byte (n % 256) ++ ds)
two_digits k n ds =
    let rest : n / 16 / 16 ≡ n / 256 = omega arith in
    let first : n / 16 % 16 ≡ n % 256 / 16 = omega arith in
    let second : n % 16 ≡ n % 256 % 16 = omega arith in
    ap (λ m. last_digits k m (digit_glyph false (n / 16 % 16) ∷ (digit_glyph false (n % 16) ∷ ds))) rest
    ∙ (ap (λ d. last_digits k (n / 256) (digit_glyph false d ∷ (digit_glyph false (n % 16) ∷ ds))) first
    ∙ ap (λ d. last_digits k (n / 256) (digit_glyph false (n % 256 / 16) ∷ (digit_glyph false d ∷ ds))) second)

eight_digits : (n : ℕ) → last_digits 8 n [] ≡ hex_byte (n / 256 / 256 / 256 % 256) ++ (hex_byte (n / 256 / 256 % 256) ++ (hex_byte (n / 256 % 256) ++ hex_byte (n % 256)))
eight_digits n =
    two_digits 6 n []
    ∙ (two_digits 4 (n / 256) (hex_byte (n % 256))
    ∙ (two_digits 2 (n / 256 / 256) (hex_byte (n / 256 % 256) ++ hex_byte (n % 256))
    ∙ two_digits 0 (n / 256 / 256 / 256) (hex_byte (n / 256 / 256 % 256) ++ (hex_byte (n / 256 % 256) ++ hex_byte (n % 256)))))

-- what `{:08x}` writes of a word, behind `0x`
pub hex_word_is : (n : ℕ) → n < 2 ^ 32 → codes "0x" ++ padded_integral (format_spec 32 0 4 8 (2 ^ 64 - 1)) false [] (digits 16 false n) ≡ hex_word n
unfolding padded_integral char_count
hex_word_is n h =
    let p = digits_filled n h in
    let ds = digits 16 false n in
    let short : 8 - length ds - 0 - 0 ≡ 8 - p.many = omega (arith, p.counted) in
    let top : n / 256 / 256 / 256 ≡ n / 2 ^ 24 = omega arith in
    let next : n / 256 / 256 ≡ n / 2 ^ 16 = omega arith in
    ap (λ xs. codes "0x" ++ (replicate (8 - length ds - 0 - 0) 48 ++ xs)) (append-nil ds)
    ∙ (ap (λ j. codes "0x" ++ (replicate j 48 ++ ds)) short
    ∙ (ap (λ xs. codes "0x" ++ xs) (p.filled ∙ eight_digits n)
    ∙ (ap (λ m. codes "0x" ++ (hex_byte (m % 256) ++ (hex_byte (n / 256 / 256 % 256) ++ (hex_byte (n / 256 % 256) ++ hex_byte (n % 256))))) top
    ∙ ap (λ m. codes "0x" ++ (hex_byte (n / 2 ^ 24 % 256) ++ (hex_byte (m % 256) ++ (hex_byte (n / 256 % 256) ++ hex_byte (n % 256))))) next)))
