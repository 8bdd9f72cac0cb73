-- Words and their bytes, there and back.
use Rattle.std.proofs.Common.{◌≡◌, ℕ, map, suc, ◌+◌, ◌*◌, ◌/◌, ◌%◌, ◌^◌, ◌<◌, List, [], ◌∷◌, ◌++◌, length, refl, ap, ◌∙◌, append_assoc, arith}
use Rattle.std.proofs.lemmas.Nat.{shr-shr}
use Rattle.std.proofs.lemmas.Grind.{flat_map-append}
use Rattle.std.specs.Int.{from_le_bytes}
use Rattle.std.specs.Simd.{first_chunks}
use mir.Syntax.{w32}
use Rattle.jobfile.specs.Jobs.{Words32}
use Rattle.jobfile.specs.Bytes.{word_of, words_of, bytes_of, bytes_of_words}

-- the words are the chunks of four bytes
pub chunks_are_words : (bytes : List ℕ) → map (λ w. from_le_bytes w32 w) (first_chunks 4 (length bytes / 4) bytes) ≡ words_of bytes
chunks_are_words [] = refl
chunks_are_words (a ∷ []) = refl
chunks_are_words (a ∷ (b ∷ [])) = refl
chunks_are_words (a ∷ (b ∷ (c ∷ []))) = refl
chunks_are_words (a ∷ (b ∷ (c ∷ (d ∷ rest)))) =
    let one : length (a ∷ (b ∷ (c ∷ (d ∷ rest)))) / 4 ≡ suc (length rest / 4) = omega arith in
    ap (λ k. map (λ w. from_le_bytes w32 w) (first_chunks 4 k (a ∷ (b ∷ (c ∷ (d ∷ rest)))))) one
    ∙ (ap (λ w. w ∷ map (λ w. from_le_bytes w32 w) (first_chunks 4 (length rest / 4) rest)) (omega arith) ∙ ap (λ ws. word_of a b c d ∷ ws) (chunks_are_words rest))

pub length_words : (bytes : List ℕ) → length (words_of bytes) ≡ length bytes / 4
length_words [] = refl
length_words (a ∷ []) = refl
length_words (a ∷ (b ∷ [])) = refl
length_words (a ∷ (b ∷ (c ∷ []))) = refl
length_words (a ∷ (b ∷ (c ∷ (d ∷ rest)))) = let h = length_words rest in omega arith

pub length_bytes : (ws : List ℕ) → length (bytes_of_words ws) ≡ 4 * length ws
length_bytes [] = refl
length_bytes (w ∷ ws) = let h = length_bytes ws in omega arith

split : (x : ℕ) → x ≡ x % 2 ^ 8 + x / 2 ^ 8 * 2 ^ 8
split x = omega arith

word_back : (w : ℕ) → w < 2 ^ 32 → word_of (w % 2 ^ 8) (w / 2 ^ 8 % 2 ^ 8) (w / 2 ^ 16 % 2 ^ 8) (w / 2 ^ 24 % 2 ^ 8) ≡ w
word_back w h =
    let top : w / 2 ^ 24 < 2 ^ 8 = omega arith in
    let last : w / 2 ^ 24 % 2 ^ 8 ≡ w / 2 ^ 24 = omega arith in
    omega (arith, last, split w, split (w / 2 ^ 8), split (w / 2 ^ 16), shr-shr w 8 8, shr-shr w 16 8)

pub words_back : (ws : List ℕ) → Words32 ws → words_of (bytes_of_words ws) ≡ ws
words_back [] h = refl
words_back (w ∷ ws) h = ap (λ x. x ∷ words_of (bytes_of_words ws)) (word_back w h.0) ∙ ap (λ x. w ∷ x) (words_back ws h.1)

-- five lists of words, written one behind the other
pub pushed_five : (v w x y z : List ℕ) → bytes_of_words (v ++ (w ++ (x ++ (y ++ z)))) ≡ (((bytes_of_words v ++ bytes_of_words w) ++ bytes_of_words x) ++ bytes_of_words y) ++ bytes_of_words z
pushed_five v w x y z =
    flat_map-append bytes_of v (w ++ (x ++ (y ++ z)))
    ∙ (ap (λ b. bytes_of_words v ++ b) (flat_map-append bytes_of w (x ++ (y ++ z)) ∙ ap (λ b. bytes_of_words w ++ b) (flat_map-append bytes_of x (y ++ z) ∙ ap (λ b. bytes_of_words x ++ b) (flat_map-append bytes_of y z)))
    ∙ simp append_assoc)

pub all_pushed : (a b c d e f v w x y z : List ℕ) → a ≡ [] → b ≡ a ++ bytes_of_words v → c ≡ b ++ bytes_of_words w → d ≡ c ++ bytes_of_words x → e ≡ d ++ bytes_of_words y → f ≡ e ++ bytes_of_words z
    → f ≡ bytes_of_words (v ++ (w ++ (x ++ (y ++ z))))
all_pushed a b c d e f v w x y z ha hb hc hd he hf =
    let five = pushed_five v w x y z in
    let first : b ≡ bytes_of_words v = hb ∙ ap (λ bs. bs ++ bytes_of_words v) ha in
    cc
