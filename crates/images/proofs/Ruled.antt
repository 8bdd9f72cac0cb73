-- The first bad word, through the layers of a reading.
use Rattle.std.proofs.Common.{◌≡◌, ℕ, ◌+◌, ◌*◌, ◌/◌, ◌%◌, ◌^◌, ◌<◌, Bool, true, false, cond, ◌&&◌, eqb, leb, List, [], ◌∷◌, ◌++◌, length, get_or, take, drop, is_some, Some, None, Ok, Err, Option, Result, sym, refl, ap, ◌∙◌, arith, lit≤}
use Rattle.std.proofs.lemmas.Nat.{shr-shr}
use Rattle.std.proofs.lemmas.List.{take-append-drop, length-take-le}
use Rattle.std.proofs.lemmas.Bool.{lt-ltb, eq-eqb}
use Rattle.std.proofs.lemmas.Bool.Decides.{nat_tests}
use Rattle.std.specs.Result.{result_err}
use Rattle.isa.specs.declared.fault.Cause.{Cause}
use Rattle.images.specs.declared.read.BadWord.{BadWord}
use Rattle.images.specs.Causes.{cause_of}
use Rattle.images.specs.Words.{then, bad, value_read, half_read, register_read}
use Rattle.images.specs.Image.{registers_read, named, cause_read, tail_read, end_word, snapshot, state_read, refused}
use Rattle.images.specs.Rules.{holds, keeps_rule, first_bad, refusal_for}
use Rattle.images.specs.Laws.{FirstBadWord}
use Rattle.images.proofs.Trip.{last_four}

abbrev bad_index : {X : Type 0} → Result X BadWord → Option ℕ
bad_index (Ok x) = None
bad_index (Err b) = Some b.index

abbrev or_else : Option ℕ → Option ℕ → Option ℕ
or_else None o = o
or_else (Some i) o = Some i

-- the kind and the register are tested at once, or each by its bits
same_test : (w k r m : ℕ) → r < 16 → (eqb (w / 2 ^ 24) (k * 16 + r) && leb (w % 2 ^ 24) m) ≡ holds k r m w
same_test w k r m h = let e = shr-shr w 24 4 in grind (arith, nat_tests)

test_then : {Y : Type 0} (t : Bool) (v i : ℕ) (f : ℕ → Result Y BadWord) (o : Option ℕ) → bad_index (f v) ≡ o
    → bad_index (then (cond {A = Result ℕ BadWord} t (Ok v) (bad i)) f) ≡ cond t o (Some i)
test_then true v i f o h = h
test_then false v i f o h = refl

value_then : {Y : Type 0} (w k r m i : ℕ) (f : ℕ → Result Y BadWord) (o : Option ℕ) → r < 16 → bad_index (f (w % 2 ^ 24)) ≡ o
    → bad_index (then (value_read w k r m i) f) ≡ cond (holds k r m w) o (Some i)
value_then w k r m i f o h g =
    test_then (eqb (w / 2 ^ 24) (k * 16 + r) && leb (w % 2 ^ 24) m) (w % 2 ^ 24) i f o g ∙ ap (λ t. cond t o (Some i)) (same_test w k r m h)

then_assoc : {X Y Z E : Type 0} (q : Result X E) (g : X → Result Y E) (f : Y → Result Z E) → then (then q g) f ≡ then q (λ x. then (g x) f)
then_assoc (Ok x) g f = refl
then_assoc (Err e) g f = refl

register_then : {Y : Type 0} (low high r : ℕ) (f : ℕ → Result Y BadWord) (o : Option ℕ) → r < 16 → ((x : ℕ) → bad_index (f x) ≡ o)
    → bad_index (then (register_read low high r) f) ≡ cond (holds 1 r 65535 low) (cond (holds 2 r 65535 high) o (Some (r * 2 + 1))) (Some (r * 2))
register_then low high r f o h g =
    ap bad_index (then_assoc (half_read low 1 r (r * 2)) _ f)
    ∙ value_then low 1 r 65535 (r * 2) _ _ h (ap bad_index (then_assoc (half_read high 2 r (r * 2 + 1)) _ f) ∙ value_then high 2 r 65535 (r * 2 + 1) _ o h (g _))

-- what makes something of a value refuses nothing
bad_index_then : {X Y : Type 0} (q : Result X BadWord) (f : X → Y) → bad_index (then q (λ x. Ok (f x))) ≡ bad_index q
bad_index_then (Ok x) f = refl
bad_index_then (Err b) f = refl

low_rule : (r w : ℕ) → r < 16 → keeps_rule (2 * r) w ≡ holds 1 r 65535 w
low_rule r w h =
    let t = lt-ltb (2 * r) 32 (omega arith) in
    let a : 2 * r % 2 + 1 ≡ 1 = omega arith in
    let b : 2 * r / 2 ≡ r = omega arith in
    rw (t, a, b)

high_rule : (r w : ℕ) → r < 16 → keeps_rule (2 * r + 1) w ≡ holds 2 r 65535 w
high_rule r w h =
    let t = lt-ltb (2 * r + 1) 32 (omega arith) in
    let a : (2 * r + 1) % 2 + 1 ≡ 2 = omega arith in
    let b : (2 * r + 1) / 2 ≡ r = omega arith in
    rw (t, a, b)

registers_ruled : (r : ℕ) (ws : List ℕ) → length ws + 2 * r ≡ 32 → bad_index (registers_read r ws) ≡ first_bad (2 * r) ws
registers_ruled r [] h = refl
registers_ruled r (w ∷ []) h = absurd (omega arith)
registers_ruled r (low ∷ (high ∷ rest)) h =
    let k : r < 16 = omega arith in
    let n : 2 * r + 1 + 1 ≡ 2 * (r + 1) = omega arith in
    let m : r * 2 ≡ 2 * r = omega arith in
    let e = registers_ruled (r + 1) rest (omega arith) in
    register_then low high r _ (first_bad (2 * (r + 1)) rest) k (λ x. bad_index_then (registers_read (r + 1) rest) (λ xs. x ∷ xs) ∙ e)
    ∙ rw (low_rule r low k, high_rule r high k, n, m)

-- the numbers up to 8 name a cause or none
cause_some : (n : ℕ) → is_some (cause_of n) ≡ leb n 8
cause_some n = grind (arith, nat_tests)

named_then : {Y : Type 0} (p : Option (Option Cause)) (f : Option Cause → Result Y BadWord) (o : Option ℕ) → ((c : Option Cause) → bad_index (f c) ≡ o)
    → bad_index (then (named p) f) ≡ cond (is_some p) o (Some 33)
named_then (Some c) f o g = g c
named_then None f o g = refl

-- a number up to 8 is below the bound of a half
cause_test : (a b : Bool) (n : ℕ) (o : Option ℕ) → cond (a && (b && leb n 65535)) (cond (leb n 8) o (Some 33)) (Some 33) ≡ cond (a && (b && leb n 8)) o (Some 33)
cause_test false b n o = refl
cause_test true false n o = refl
cause_test true true n o = grind (arith, nat_tests)

cause_then : {Y : Type 0} (w : ℕ) (f : Option Cause → Result Y BadWord) (o : Option ℕ) → ((c : Option Cause) → bad_index (f c) ≡ o)
    → bad_index (then (cause_read w) f) ≡ cond (holds 4 0 8 w) o (Some 33)
cause_then w f o g =
    let n = w % 2 ^ 24 in
    ap bad_index (then_assoc (half_read w 4 0 33) (λ n. named (cause_of n)) f)
    ∙ (value_then w 4 0 65535 33 _ (cond (leb n 8) o (Some 33)) (lit≤ tt) (named_then (cause_of n) f o g ∙ ap (λ t. cond t o (Some 33)) (cause_some n))
    ∙ cause_test (eqb (w / 2 ^ 28) 4) (eqb (w / 2 ^ 24 % 16) 0) n o)

last_test : {X : Type 0} (t : Bool) (x : X) (i : ℕ) → bad_index (cond {A = Result X BadWord} t (Ok x) (bad i)) ≡ cond t None (Some i)
last_test true x i = refl
last_test false x i = refl

tail_ruled : (a b c d : ℕ) → bad_index (tail_read a b c d) ≡ first_bad 32 (a ∷ b ∷ c ∷ d ∷ [])
tail_ruled a b c d =
    value_then a 3 0 65535 32 _ _ (lit≤ tt) (cause_then b _ _ (λ k. value_then c 5 0 1000000 34 _ _ (lit≤ tt) (last_test (eqb d end_word) _ 35)))

cond_or : (t : Bool) (p q : Option ℕ) (i : ℕ) → cond t (or_else p q) (Some i) ≡ or_else (cond t p (Some i)) q
cond_or true p q i = refl
cond_or false p q i = refl

first_bad_append : (i : ℕ) (xs ys : List ℕ) → first_bad i (xs ++ ys) ≡ or_else (first_bad i xs) (first_bad (i + length xs) ys)
first_bad_append i [] ys = let e : i + 0 ≡ i = omega arith in rw e
first_bad_append i (x ∷ xs) ys =
    let e : i + 1 + length xs ≡ i + length (x ∷ xs) = omega arith in
    ap (λ o. cond (keeps_rule i x) o (Some i)) (first_bad_append (i + 1) xs ys ∙ ap (λ n. or_else (first_bad (i + 1) xs) (first_bad n ys)) e)
    ∙ cond_or (keeps_rule i x) (first_bad (i + 1) xs) (first_bad (i + length (x ∷ xs)) ys) i

then_or : {X Y : Type 0} (q : Result X BadWord) (f : X → Result Y BadWord) (o : Option ℕ) → ((x : X) → bad_index (f x) ≡ o) → bad_index (then q f) ≡ or_else (bad_index q) o
then_or (Ok x) f o g = g x
then_or (Err b) f o g = refl

refused_for : {X : Type 0} (q : Result X BadWord) → result_err (refused q) ≡ refusal_for (bad_index q)
refused_for (Ok x) = refl
refused_for (Err b) = refl

state_ruled : (ws : List ℕ) → length ws ≡ 36 → bad_index (state_read ws) ≡ first_bad 0 ws
state_ruled ws l =
    let n = length-take-le 32 ws (omega arith) in
    let t = tail_ruled (get_or ws 32 0) (get_or ws 33 0) (get_or ws 34 0) (get_or ws 35 0) ∙ ap (first_bad 32) (sym (last_four ws l)) in
    let r : bad_index (registers_read 0 (take 32 ws)) ≡ first_bad 0 (take 32 ws) = registers_ruled 0 (take 32 ws) (omega arith) in
    let m : 32 ≡ 0 + length (take 32 ws) = omega arith in
    then_or (registers_read 0 (take 32 ws)) _ (first_bad 32 (drop 32 ws)) (λ xs. bad_index_then (tail_read (get_or ws 32 0) (get_or ws 33 0) (get_or ws 34 0) (get_or ws 35 0)) (snapshot xs) ∙ t)
    ∙ (ap (λ o. or_else o (first_bad 32 (drop 32 ws))) r
    ∙ (ap (λ k. or_else (first_bad 0 (take 32 ws)) (first_bad k (drop 32 ws))) m
    ∙ (sym (first_bad_append 0 (take 32 ws) (drop 32 ws)) ∙ ap (first_bad 0) (take-append-drop 32 ws))))

pub first_bad_word : FirstBadWord
first_bad_word ws l =
    let e = eq-eqb (length ws) 36 l in
    rw e (refused_for (state_read ws) ∙ ap refusal_for (state_ruled ws l))
