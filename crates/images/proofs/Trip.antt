-- Words read and written again are the same, and so is a state written and read.
use Rattle.std.proofs.Common.{◌≡◌, ℕ, ◌+◌, ◌*◌, ◌/◌, ◌%◌, ◌^◌, ◌<◌, ◌≤◌, Bool, true, false, cond, ◌&&◌, eqb, leb, List, [], ◌∷◌, ◌++◌, length, get_or, take, drop, Some, None, Ok, Err, Option, Result, sym, refl, ap, ◌∙◌, arith, lit≤}
use Rattle.std.proofs.lemmas.List.{take-append-drop, length-take-le, length-append, take_at, get_or-append_right, drop_more, drop_all}
use Rattle.std.proofs.lemmas.Bool.{and_parts, and_from, eq-eqb, eqb-true, le-leb, leb-true, cond-true}
use Rattle.std.proofs.lemmas.Bool.Decides.{nat_tests}
use Rattle.std.specs.List.{AllByRecursion}
use Rattle.isa.specs.declared.fault.Fault.TheVariants as fault
use Rattle.isa.specs.declared.fault.Cause.{Cause}
use Rattle.isa.specs.declared.fault.Cause.TheVariants as cause
use Rattle.isa.specs.declared.refusal.Refusal.TheVariants.{ImageLength}
use Rattle.isa.specs.Numbers.{cause_or_0}
use Rattle.images.specs.declared.read.BadWord.{BadWord}
use Rattle.images.specs.Causes.{cause_of}
use Rattle.images.specs.Words.{word_of, then, value_read, half_read, register_read}
use Rattle.images.specs.Image.{Snapshot, register_words, tail_words, end_word, image_words, registers_read, named, cause_read, tail_read, snapshot, state_read, refused, read_words}
use Rattle.images.specs.Laws.{ReadThenWrite, WriteThenRead}
use Rattle.images.proofs.Places.{length_register_words}

-- an Ok under a test says that the test passed
ok_when : {X E : Type 0} (t : Bool) (q : Result X E) (y : X) (z : E) → cond t q (Err z) ≡ Ok y → (t ≡ true) × (q ≡ Ok y)
ok_when true q y z e = (refl, e)
ok_when false q y z e = absurd (let o : ◌≡◌ {A = ℕ} 0 1 = cc in omega arith)

-- an Ok after an Ok
ok_then : {X Y E : Type 0} (q : Result X E) (f : X → Result Y E) (y : Y) → then q f ≡ Ok y → (x : X) × (q ≡ Ok x) × (f x ≡ Ok y)
ok_then (Ok x) f y e = (x, refl, e)
ok_then (Err b) f y e = absurd (let o : ◌≡◌ {A = ℕ} 0 1 = cc in omega arith)

-- a word that reads is the word of its value
value_there : (w k r m i v : ℕ) → value_read w k r m i ≡ Ok v → (word_of k r v ≡ w) × (v ≤ m)
value_there w k r m i v e =
    let p = ok_when (eqb (w / 2 ^ 24) (k * 16 + r) && leb (w % 2 ^ 24) m) (Ok (w % 2 ^ 24)) v (record { index = i }) e in
    let q = and_parts (eqb (w / 2 ^ 24) (k * 16 + r)) (leb (w % 2 ^ 24) m) p.0 in
    let a = eqb-true (w / 2 ^ 24) (k * 16 + r) q.0 in
    let b = leb-true (w % 2 ^ 24) m q.1 in
    let c : w % 2 ^ 24 ≡ v = cc p.1 in
    (omega arith, omega arith)

-- the word of a value reads as it
value_back : (k r m i v : ℕ) → v ≤ m → m < 2 ^ 24 → value_read (word_of k r v) k r m i ≡ Ok v
value_back k r m i v h g =
    let a : word_of k r v / 2 ^ 24 ≡ k * 16 + r = omega arith in
    let b : word_of k r v % 2 ^ 24 ≡ v = omega arith in
    let x = eq-eqb (word_of k r v / 2 ^ 24) (k * 16 + r) a in
    let y : leb (word_of k r v % 2 ^ 24) m ≡ true = le-leb (word_of k r v % 2 ^ 24) m (omega arith) in
    cond-true _ _ _ (and_from _ _ x y) ∙ ap Ok b

register_there : (low high r x : ℕ) → register_read low high r ≡ Ok x → (word_of 1 r (x % 2 ^ 16) ≡ low) × (word_of 2 r (x / 2 ^ 16) ≡ high)
register_there low high r x e =
    let p = ok_then (half_read low 1 r (r * 2)) _ x e in
    let q = ok_then (half_read high 2 r (r * 2 + 1)) _ x p.2 in
    let a = value_there low 1 r 65535 (r * 2) p.0 p.1 in
    let b = value_there high 2 r 65535 (r * 2 + 1) q.0 q.1 in
    let s : q.0 * 2 ^ 16 + p.0 ≡ x = cc q.2 in
    (omega (arith, a.0, a.1, b.0, b.1, s), omega (arith, a.0, a.1, b.0, b.1, s))

register_back : (r x : ℕ) → x < 2 ^ 32 → register_read (word_of 1 r (x % 2 ^ 16)) (word_of 2 r (x / 2 ^ 16)) r ≡ Ok x
register_back r x h =
    let a = value_back 1 r 65535 (r * 2) (x % 2 ^ 16) (omega arith) (lit≤ tt) in
    let b = value_back 2 r 65535 (r * 2 + 1) (x / 2 ^ 16) (omega arith) (lit≤ tt) in
    let s : x / 2 ^ 16 * 2 ^ 16 + x % 2 ^ 16 ≡ x = omega arith in
    rw (a, b, s)

registers_there : (r : ℕ) (ws xs : List ℕ) → length ws % 2 ≡ 0 → registers_read r ws ≡ Ok xs → register_words r xs ≡ ws
registers_there r [] xs h e = let n : [] ≡ xs = cc in ap (register_words r) (sym n)
registers_there r (w ∷ []) xs h e = absurd (omega arith)
registers_there r (low ∷ (high ∷ rest)) xs h e =
    let p = ok_then (register_read low high r) _ xs e in
    let q = ok_then (registers_read (r + 1) rest) _ xs p.2 in
    let a = register_there low high r p.0 p.1 in
    let b = registers_there (r + 1) rest q.0 (omega arith) q.1 in
    let s : p.0 ∷ q.0 ≡ xs = cc q.2 in
    ap (register_words r) (sym s) ∙ cc (a.0, a.1, b)

registers_back : (r : ℕ) (xs : List ℕ) → AllByRecursion (λ x. x < 2 ^ 32) xs → registers_read r (register_words r xs) ≡ Ok xs
registers_back r [] h = refl
registers_back r (x ∷ xs) h =
    let a = register_back r x h.0 in
    let b = registers_back (r + 1) xs h.1 in
    rw (a, b)

-- the number of a cause names it
cause_back : (c : Option Cause) → named (cause_of (cause_or_0 c)) ≡ Ok c
cause_back None = refl
cause_back (Some (cause.Fault fault.DivideByZero)) = refl
cause_back (Some (cause.Fault fault.Overflow)) = refl
cause_back (Some (cause.Fault fault.Address)) = refl
cause_back (Some (cause.Fault fault.Illegal)) = refl
cause_back (Some (cause.Fault fault.PastEnd)) = refl
cause_back (Some (cause.Fault fault.Stop)) = refl
cause_back (Some cause.Request) = refl
cause_back (Some cause.Cut) = refl

cause_small : (c : Option Cause) → cause_or_0 c ≤ 8
cause_small None = lit≤ tt
cause_small (Some (cause.Fault fault.DivideByZero)) = lit≤ tt
cause_small (Some (cause.Fault fault.Overflow)) = lit≤ tt
cause_small (Some (cause.Fault fault.Address)) = lit≤ tt
cause_small (Some (cause.Fault fault.Illegal)) = lit≤ tt
cause_small (Some (cause.Fault fault.PastEnd)) = lit≤ tt
cause_small (Some (cause.Fault fault.Stop)) = lit≤ tt
cause_small (Some cause.Request) = lit≤ tt
cause_small (Some cause.Cut) = lit≤ tt

cause_there : (n : ℕ) (c : Option Cause) → named (cause_of n) ≡ Ok c → cause_or_0 c ≡ n
cause_there n c e = grind (arith, nat_tests)

tail_there : (a b c d : ℕ) (xs : List ℕ) (t : ℕ × Option Cause × ℕ) → tail_read a b c d ≡ Ok t → tail_words (snapshot xs t) ≡ a ∷ b ∷ c ∷ d ∷ []
tail_there a b c d xs t e =
    let p = ok_then (half_read a 3 0 32) _ t e in
    let q = ok_then (cause_read b) _ t p.2 in
    let n = ok_then (half_read b 4 0 33) _ q.0 q.1 in
    let r = ok_then (value_read c 5 0 1000000 34) _ t q.2 in
    let l = ok_when (eqb d end_word) (Ok (p.0, q.0, r.0)) t (record { index = 35 }) r.2 in
    let ea : word_of 3 0 p.0 ≡ a = (value_there a 3 0 65535 32 p.0 p.1).0 in
    let eb : word_of 4 0 n.0 ≡ b = (value_there b 4 0 65535 33 n.0 n.1).0 in
    let ec : word_of 5 0 r.0 ≡ c = (value_there c 5 0 1000000 34 r.0 r.1).0 in
    let ed : d ≡ end_word = eqb-true d end_word l.0 in
    let en : cause_or_0 q.0 ≡ n.0 = cause_there n.0 q.0 n.2 in
    let et : (p.0, q.0, r.0) ≡ t = cc l.1 in
    ap (λ u. tail_words (snapshot xs u)) (sym et) ∙ rw (en, ea, eb, ec, ed)

tail_back : (n m : ℕ) (c : Option Cause) → n < 2 ^ 16 → m ≤ 1000000
    → tail_read (word_of 3 0 n) (word_of 4 0 (cause_or_0 c)) (word_of 5 0 m) end_word ≡ Ok (n, c, m)
tail_back n m c h g =
    let ea = value_back 3 0 65535 32 n (omega arith) (lit≤ tt) in
    let eb = value_back 4 0 65535 33 (cause_or_0 c) (omega (arith, cause_small c)) (lit≤ tt) in
    let ec = value_back 5 0 1000000 34 m g (lit≤ tt) in
    rw (ea, eb, cause_back c, ec)

-- the last four of 36 words
pub last_four : (ws : List ℕ) → length ws ≡ 36 → drop 32 ws ≡ get_or ws 32 0 ∷ get_or ws 33 0 ∷ get_or ws 34 0 ∷ get_or ws 35 0 ∷ []
last_four ws l =
    let a = drop_more ws 32 0 (omega arith) in
    let b = drop_more ws 33 0 (omega arith) in
    let c = drop_more ws 34 0 (omega arith) in
    let d = drop_more ws 35 0 (omega arith) in
    let e = drop_all 36 ws (omega arith) in
    rw (a, b, c, d, e)

state_there : (ws : List ℕ) (s : Snapshot) → length ws ≡ 36 → state_read ws ≡ Ok s → image_words s ≡ ws
state_there ws s l e =
    let p = ok_then (registers_read 0 (take 32 ws)) _ s e in
    let q = ok_then (tail_read (get_or ws 32 0) (get_or ws 33 0) (get_or ws 34 0) (get_or ws 35 0)) _ s p.2 in
    let n = length-take-le 32 ws (omega arith) in
    let a = registers_there 0 (take 32 ws) p.0 (ap (λ k. k % 2) n) p.1 in
    let b = tail_there (get_or ws 32 0) (get_or ws 33 0) (get_or ws 34 0) (get_or ws 35 0) p.0 q.0 q.1 in
    let es : snapshot p.0 q.0 ≡ s = cc q.2 in
    ap image_words (sym es) ∙ (ap (λ xs. xs ++ tail_words (snapshot p.0 q.0)) a ∙ (ap (λ xs. take 32 ws ++ xs) (b ∙ sym (last_four ws l)) ∙ take-append-drop 32 ws))

refused_ok : {X : Type 0} (q : Result X BadWord) (x : X) → refused q ≡ Ok x → q ≡ Ok x
refused_ok (Ok y) x e = cc
refused_ok (Err b) x e = absurd (let o : ◌≡◌ {A = ℕ} 0 1 = cc in omega arith)

pub read_then_write : ReadThenWrite
read_then_write ws s e =
    let p = ok_when (eqb (length ws) 36) (refused (state_read ws)) s ImageLength e in
    state_there ws s (eqb-true (length ws) 36 p.0) (refused_ok (state_read ws) s p.1)

pub write_then_read : WriteThenRead
write_then_read s l h hc hm =
    let p = register_words 0 s.registers in
    let t = tail_words s in
    let n : length p ≡ 32 = length_register_words 0 s.registers ∙ ap (λ k. 2 * k) l in
    let m : length (p ++ t) ≡ 36 = length-append p t ∙ ap (λ k. k + 4) n in
    let e = eq-eqb (length (p ++ t)) 36 m in
    let f : take 32 (p ++ t) ≡ p = take_at p t 32 n in
    let a = get_or-append_right p t 32 32 0 n (lit≤ tt) in
    let b = get_or-append_right p t 32 33 0 n (lit≤ tt) in
    let c = get_or-append_right p t 32 34 0 n (lit≤ tt) in
    let d = get_or-append_right p t 32 35 0 n (lit≤ tt) in
    let x = registers_back 0 s.registers h in
    let y = tail_back s.counter s.count s.cause hc hm in
    rw (e, f, a, b, c, d, x, y)

-- an image that reads has sixteen registers
pub length_read : (ws : List ℕ) (s : Snapshot) → read_words ws ≡ Ok s → length s.registers ≡ 16
length_read ws s e =
    let p = ok_when (eqb (length ws) 36) (refused (state_read ws)) s ImageLength e in
    let l : length ws ≡ 36 = eqb-true (length ws) 36 p.0 in
    let n = length-append (register_words 0 s.registers) (tail_words s) in
    let m = length_register_words 0 s.registers in
    let w = ap length (read_then_write ws s e) in
    omega arith
