use Rattle.std.proofs.Common.{◌≡◌, ℕ, ◌+◌, ◌*◌, ◌^◌, ◌<◌, ◌≤◌, Bool, true, false, cond, ◌&&◌, ltb, leb, Ok, Err, Result, refl, ap, ◌∙◌, subst, arith, lit≤}
use Rattle.std.proofs.lemmas.Nat.{shr-shr}
use Rattle.std.proofs.lemmas.Bool.{and_parts, and_from, lt-ltb, ltb-true, le-leb, leb-true, cond-true}
use Rattle.isa.specs.declared.refusal.Refusal.TheVariants.{NotAnInstruction}
use Rattle.std.proofs.lemmas.Bool.Decides.{nat_tests}
use Rattle.isa.specs.declared.words.Kind.{Kind}
use Rattle.isa.specs.declared.words.Kind.TheVariants.{Stop, Set, Add, Subtract, ExclusiveOr, Multiply, Divide, CheckedAdd, Load, Store, BranchEqual, BranchUnequal}
use Rattle.isa.specs.Numbers.{kind_number}
use Rattle.isa.specs.Words.{decoded, encoded, kind_of, kind_bits, d_bits, a_bits, b_bits, n_bits, joined, unused_zero, legal}
use Rattle.isa.specs.Laws.{ReadThenWrite, WriteThenRead}

pub number_at : (k : ℕ) → k ≤ 11 → kind_number (kind_of k) ≡ k
number_at k h = grind (arith, nat_tests)

pub at_number : (k : Kind) → kind_of (kind_number k) ≡ k
at_number Stop = refl
at_number Set = refl
at_number Add = refl
at_number Subtract = refl
at_number ExclusiveOr = refl
at_number Multiply = refl
at_number Divide = refl
at_number CheckedAdd = refl
at_number Load = refl
at_number Store = refl
at_number BranchEqual = refl
at_number BranchUnequal = refl

module _ (k d a b n : ℕ) (hk : k < 16) (hd : d < 16) (ha : a < 16) (hb : b < 16) (hn : n < 2 ^ 16) where
  word : ℕ
  word = k * 2 ^ 28 + d * 2 ^ 24 + a * 2 ^ 20 + b * 2 ^ 16 + n

  kind_back : kind_bits word ≡ k
  unfolding word
  kind_back = omega arith

  d_back : d_bits word ≡ d
  unfolding word
  d_back = omega arith

  a_back : a_bits word ≡ a
  unfolding word
  a_back = omega arith

  b_back : b_bits word ≡ b
  unfolding word
  b_back = omega arith

  n_back : n_bits word ≡ n
  unfolding word
  n_back = omega arith

-- an Ok from a test says that the test passed, and what it holds
ok_from : {X E : Type 0} (t : Bool) (x y : X) (z : E) → cond {A = Result X E} t (Ok x) (Err z) ≡ Ok y → (t ≡ true) × (x ≡ y)
ok_from true x y z e = (refl, cc)
ok_from false x y z e = absurd (let o : ◌≡◌ {A = ℕ} 0 1 = cc in omega arith)

fields_join : (w : ℕ) → kind_bits w * 2 ^ 28 + d_bits w * 2 ^ 24 + a_bits w * 2 ^ 20 + b_bits w * 2 ^ 16 + n_bits w ≡ w
fields_join w = omega (arith, shr-shr w 24 4, shr-shr w 20 4, shr-shr w 16 4)

rewrites : (w : ℕ) → legal w ≡ true → encoded (kind_of (kind_bits w)) (d_bits w) (a_bits w) (b_bits w) (n_bits w) ≡ Ok w
rewrites w h =
    let p = and_parts (leb (kind_bits w) 11) _ h in
    let hk : kind_bits w ≤ 11 = leb-true (kind_bits w) 11 p.0 in
    let e : kind_number (kind_of (kind_bits w)) ≡ kind_bits w = number_at (kind_bits w) hk in
    let t = and_from _ _ (lt-ltb (d_bits w) 16 (omega arith)) (and_from _ _ (lt-ltb (a_bits w) 16 (omega arith)) (and_from _ _ (lt-ltb (b_bits w) 16 (omega arith)) p.1)) in
    cond-true _ _ _ t ∙ ap Ok (ap (λ m. m * 2 ^ 28 + d_bits w * 2 ^ 24 + a_bits w * 2 ^ 20 + b_bits w * 2 ^ 16 + n_bits w) e ∙ fields_join w)

pub read_then_write : ReadThenWrite
read_then_write w k d a b n e =
    let p = ok_from (legal w) _ (k, d, a, b, n) NotAnInstruction e in
    let P : (Kind × ℕ × ℕ × ℕ × ℕ) → Type 0 = λ t. encoded t.0 t.1 t.2 t.3 t.4 ≡ Ok w in
    subst P p.1 (rewrites w p.0)

number_below : (k : Kind) → kind_number k ≤ 11
number_below Stop = lit≤ tt
number_below Set = lit≤ tt
number_below Add = lit≤ tt
number_below Subtract = lit≤ tt
number_below ExclusiveOr = lit≤ tt
number_below Multiply = lit≤ tt
number_below Divide = lit≤ tt
number_below CheckedAdd = lit≤ tt
number_below Load = lit≤ tt
number_below Store = lit≤ tt
number_below BranchEqual = lit≤ tt
number_below BranchUnequal = lit≤ tt

rereads : (k : Kind) (d a b n : ℕ) → n < 2 ^ 16 → d < 16 → a < 16 → b < 16 → unused_zero k d a b n ≡ true
    → decoded (joined k d a b n) ≡ Ok (k, d, a, b, n)
unfolding word
rereads k d a b n hn hd ha hb u =
    let hk = number_below k in
    let h16 : kind_number k < 16 = omega arith in
    let e0 = kind_back (kind_number k) d a b n h16 hd ha hb hn in
    let e1 = d_back (kind_number k) d a b n h16 hd ha hb hn in
    let e2 = a_back (kind_number k) d a b n h16 hd ha hb hn in
    let e3 = b_back (kind_number k) d a b n h16 hd ha hb hn in
    let e4 = n_back (kind_number k) d a b n h16 hd ha hb hn in
    let e5 = at_number k in
    let t = and_from (leb (kind_number k) 11) (unused_zero k d a b n) (le-leb (kind_number k) 11 hk) u in
    rw (e0, e1, e2, e3, e4, e5, t)

pub write_then_read : WriteThenRead
write_then_read k d a b n w h e =
    let p = ok_from (ltb d 16 && (ltb a 16 && (ltb b 16 && unused_zero k d a b n))) (joined k d a b n) w NotAnInstruction e in
    let q = and_parts (ltb d 16) _ p.0 in
    let r = and_parts (ltb a 16) _ q.1 in
    let s = and_parts (ltb b 16) _ r.1 in
    let P : ℕ → Type 0 = λ v. decoded v ≡ Ok (k, d, a, b, n) in
    subst P p.1 (rereads k d a b n h (ltb-true d 16 q.0) (ltb-true a 16 r.0) (ltb-true b 16 s.0) s.1)
