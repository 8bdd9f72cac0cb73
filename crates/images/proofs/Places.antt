-- Words written one after another to the front of a list.
use Rattle.std.proofs.Common.{◌≡◌, ℕ, ◌+◌, ◌*◌, ◌/◌, ◌%◌, ◌^◌, ◌<◌, ◌≤◌, List, [], ◌∷◌, ◌++◌, length, get_or, take, drop, set, sym, refl, ap, ◌∙◌, arith}
use Rattle.std.proofs.lemmas.List.{append_assoc, set_at, drop_more, take_more, length-take-le, length_push}
use Rattle.std.proofs.lemmas.Bool.{le-ltb}
use Rattle.isa.specs.Numbers.{cause_or_0}
use Rattle.images.specs.Words.{word_of}
use Rattle.images.specs.Image.{Snapshot, register_words, end_word, write_leaves}

-- the word after a front
pub next_word : (p b : List ℕ) (n a : ℕ) → length p ≡ n → n < length b → set (p ++ drop n b) n a ≡ (p ++ a ∷ []) ++ drop (n + 1) b
next_word p b n a e h =
    ap (λ ys. set (p ++ ys) n a) (drop_more b n 0 h) ∙ (set_at p (get_or b n 0) (drop (n + 1) b) a n e ∙ sym (append_assoc p (a ∷ []) (drop (n + 1) b)))

pub length_register_words : (r : ℕ) (xs : List ℕ) → length (register_words r xs) ≡ 2 * length xs
length_register_words r [] = refl
length_register_words r (x ∷ xs) = omega (arith, length_register_words (r + 1) xs)

-- the words of one register more
pub register_words_push : (r : ℕ) (xs : List ℕ) (x : ℕ) → register_words r (xs ++ x ∷ []) ≡ (register_words r xs ++ word_of 1 (r + length xs) (x % 2 ^ 16) ∷ []) ++ word_of 2 (r + length xs) (x / 2 ^ 16) ∷ []
register_words_push r [] x = let e : r + 0 ≡ r = omega arith in rw e
register_words_push r (y ∷ ys) x =
    let e : r + length (y ∷ ys) ≡ r + 1 + length ys = omega arith in
    rw (e, register_words_push (r + 1) ys x)

-- one register more is written
pub next_register : (xs old buf : List ℕ) (r a b : ℕ) → buf ≡ register_words 0 (take r xs) ++ drop (2 * r) old → r < length xs → 2 * length xs ≤ length old
    → a ≡ word_of 1 r (get_or xs r 0 % 2 ^ 16) → b ≡ word_of 2 r (get_or xs r 0 / 2 ^ 16)
    → set (set buf (2 * r) a) (2 * r + 1) b ≡ register_words 0 (take (r + 1) xs) ++ drop (2 * (r + 1)) old
next_register xs old buf r a b e h k ea eb =
    let p = register_words 0 (take r xs) in
    let lt : length (take r xs) ≡ r = length-take-le r xs (omega arith) in
    let lp : length p ≡ 2 * r = length_register_words 0 (take r xs) ∙ ap (λ n. 2 * n) lt in
    let lq : length (p ++ a ∷ []) ≡ 2 * r + 1 = length_push p a ∙ ap (λ n. n + 1) lp in
    let one : set (p ++ drop (2 * r) old) (2 * r) a ≡ (p ++ a ∷ []) ++ drop (2 * r + 1) old = next_word p old (2 * r) a lp (omega arith) in
    let two : set ((p ++ a ∷ []) ++ drop (2 * r + 1) old) (2 * r + 1) b ≡ ((p ++ a ∷ []) ++ b ∷ []) ++ drop (2 * r + 1 + 1) old = next_word (p ++ a ∷ []) old (2 * r + 1) b lq (omega arith) in
    let n : 2 * r + 1 + 1 ≡ 2 * (r + 1) = omega arith in
    let z : 0 + length (take r xs) ≡ r = omega arith in
    let w : register_words 0 (take (r + 1) xs) ≡ (p ++ a ∷ []) ++ b ∷ [] =
    ap (register_words 0) (take_more xs r 0 h) ∙ (register_words_push 0 (take r xs) (get_or xs r 0) ∙ rw (z, ea, eb)) in
    ap (λ ys. set (set ys (2 * r) a) (2 * r + 1) b) e ∙ (ap (λ ys. set ys (2 * r + 1) b) one ∙ (two ∙ (ap (λ m. ((p ++ a ∷ []) ++ b ∷ []) ++ drop m old) n ∙ ap (λ ys. ys ++ drop (2 * (r + 1)) old) (sym w))))

-- the four words after the registers
pub four_words : (p b : List ℕ) (w x y z : ℕ) → length p ≡ 32 → 36 ≤ length b
    → set (set (set (set (p ++ drop 32 b) 32 w) 33 x) 34 y) 35 z ≡ (p ++ w ∷ x ∷ y ∷ z ∷ []) ++ drop 36 b
four_words p b w x y z e h =
    let e1 : length (p ++ w ∷ []) ≡ 33 = length_push p w ∙ ap (λ n. n + 1) e in
    let e2 : length ((p ++ w ∷ []) ++ x ∷ []) ≡ 34 = length_push (p ++ w ∷ []) x ∙ ap (λ n. n + 1) e1 in
    let e3 : length (((p ++ w ∷ []) ++ x ∷ []) ++ y ∷ []) ≡ 35 = length_push ((p ++ w ∷ []) ++ x ∷ []) y ∙ ap (λ n. n + 1) e2 in
    ap (λ ys. set (set (set ys 33 x) 34 y) 35 z) (next_word p b 32 w e (omega arith))
    ∙ (ap (λ ys. set (set ys 34 y) 35 z) (next_word (p ++ w ∷ []) b 33 x e1 (omega arith))
    ∙ (ap (λ ys. set ys 35 z) (next_word ((p ++ w ∷ []) ++ x ∷ []) b 34 y e2 (omega arith))
    ∙ (next_word (((p ++ w ∷ []) ++ x ∷ []) ++ y ∷ []) b 35 z e3 (omega arith) ∙ simp append_assoc)))

-- the whole image is written
pub written : (s : Snapshot) (b buf : List ℕ) (w x y : ℕ) → buf ≡ register_words 0 s.registers ++ drop 32 b → length s.registers ≡ 16 → 36 ≤ length b
    → w ≡ word_of 3 0 s.counter → x ≡ word_of 4 0 (cause_or_0 s.cause) → y ≡ word_of 5 0 s.count
    → set (set (set (set buf 32 w) 33 x) 34 y) 35 end_word ≡ write_leaves s b
written s b buf w x y e l h ew ex ey =
    let p = register_words 0 s.registers in
    let t = le-ltb (length b) 36 h in
    ap (λ ys. set (set (set (set ys 32 w) 33 x) 34 y) 35 end_word) e
    ∙ (four_words p b w x y end_word (length_register_words 0 s.registers ∙ ap (λ n. 2 * n) l) h ∙ rw (t, ew, ex, ey))
