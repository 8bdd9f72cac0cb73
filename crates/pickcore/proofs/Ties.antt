-- Stages and the pending entries that they belong to, through deliveries, retirements and admissions.
use Rattle.std.proofs.Common.{◌≡◌, ℕ, zero, suc, ◌≤◌, Bool, true, false, cond, ◌&&◌, ◌||◌, eqb, List, [], ◌∷◌, ◌++◌, length, get_or, set, replicate, Some, None, Option, Result, refl, ap, ◌∙◌, arith}
use Rattle.std.proofs.lemmas.Bool.{or_parts}
use Rattle.std.proofs.lemmas.Bool.Decides.{nat_tests}
use Rattle.isa.specs.declared.fault.Fault.{Fault}
use Rattle.recovery.specs.declared.Status.{Status}
use Rattle.recovery.specs.Meaning.{Entry, has_tag, is_pending, takes, waiting, with_status, delivered, new_entry}
use Rattle.pickcore.specs.declared.stages.Stage.{Stage}
use Rattle.pickcore.specs.Sound.{Counters, staged, Tied}

-- the stages

staged_end : (t : ℕ) (xs : List (Option Stage)) → staged t (xs ++ (None ∷ [])) ≡ staged t xs
staged_end t [] = refl
staged_end t (None ∷ xs) = staged_end t xs
staged_end t (Some x ∷ xs) = ap (λ b. eqb x.tag t || b) (staged_end t xs)

pub tied_end : (es : List Entry) (xs : List (Option Stage)) → Tied es xs → Tied es (xs ++ (None ∷ []))
tied_end es [] k = tt
tied_end es (None ∷ xs) k = tied_end es xs k
tied_end es (Some x ∷ xs) k = (k.0, staged_end x.tag xs ∙ k.1, tied_end es xs k.2)

pub tied_none : (es : List Entry) (n : ℕ) → Tied es (replicate n None)
tied_none es zero = tt
tied_none es (suc n) = tied_none es n

-- a delivery to another tag leaves a wait

pending_other : (b c : Bool) (e : Entry) (s : Status) → (b ≡ true → c ≡ false) → (c && is_pending (cond (b && is_pending e.status) (with_status e s) e).status) ≡ (c && is_pending e.status)
pending_other true true e s h = let z : ◌≡◌ {A = ℕ} 0 1 = cc (h refl) in absurd (omega arith)
pending_other true false e s h = refl
pending_other false c e s h = refl

same_tag : (b : Bool) (e : Entry) (s : Status) → (cond b (with_status e s) e).tag ≡ e.tag
same_tag true e s = refl
same_tag false e s = refl

waiting_delivered : (t u : ℕ) (s : Status) (es : List Entry) → eqb t u ≡ false → waiting u (delivered t s es) ≡ waiting u es
waiting_delivered t u s [] h = refl
waiting_delivered t u s (e ∷ es) h =
    let one = pending_other (eqb e.tag t) (eqb e.tag u) e s (λ g. grind (arith, nat_tests)) in
    let tag = same_tag (takes t e) e s in
    let rest = waiting_delivered t u s es h in
    ap (λ n. (eqb n u && is_pending (cond (takes t e) (with_status e s) e).status) || waiting u (delivered t s es)) tag
    ∙ (ap (λ b. b || waiting u (delivered t s es)) one ∙ ap (λ b. takes u e || b) rest)

pub tied_delivered : (t : ℕ) (s : Status) (es : List Entry) (xs : List (Option Stage)) → Tied es xs → staged t xs ≡ false → Tied (delivered t s es) xs
tied_delivered t s es [] k h = tt
tied_delivered t s es (None ∷ xs) k h = tied_delivered t s es xs k h
tied_delivered t s es (Some x ∷ xs) k h =
    let p = or_parts (eqb x.tag t) (staged t xs) h in
    let ne : eqb t x.tag ≡ false = let q = p.0 in grind (arith, nat_tests) in
    (waiting_delivered t x.tag s es ne ∙ k.0, k.1, tied_delivered t s es xs k.2 p.1)

-- the oldest entry, which is not pending, goes

past_front : (b c : Bool) → b ≡ false → (b || c) ≡ true → c ≡ true
past_front true c h k = let z : ◌≡◌ {A = ℕ} 0 1 = cc in absurd (omega arith)
past_front false c h k = k

not_taken : (t : ℕ) (e : Entry) → is_pending e.status ≡ false → takes t e ≡ false
not_taken t e h = elim (eqb e.tag t) as (λ b. (b && is_pending e.status) ≡ false) [ true ↦ h | false ↦ refl ]

pub tied_retired : (e : Entry) (es : List Entry) (xs : List (Option Stage)) → is_pending e.status ≡ false → Tied (e ∷ es) xs → Tied es xs
tied_retired e es [] h k = tt
tied_retired e es (None ∷ xs) h k = tied_retired e es xs h k
tied_retired e es (Some x ∷ xs) h k = (past_front (takes x.tag e) (waiting x.tag es) (not_taken x.tag e h) k.0, k.1, tied_retired e es xs h k.2)

-- a new entry

or_more : (a b c : Bool) → (b ≡ true → c ≡ true) → (a || b) ≡ true → (a || c) ≡ true
or_more true b c ih h = refl
or_more false b c ih h = ih h

waiting_more : (t : ℕ) (es : List Entry) (e : Entry) → waiting t es ≡ true → waiting t (es ++ (e ∷ [])) ≡ true
waiting_more t [] e h = let z : ◌≡◌ {A = ℕ} 0 1 = cc in absurd (omega arith)
waiting_more t (x ∷ es) e h = or_more (takes t x) (waiting t es) (waiting t (es ++ (e ∷ []))) (waiting_more t es e) h

pub tied_more : (es : List Entry) (e : Entry) (xs : List (Option Stage)) → Tied es xs → Tied (es ++ (e ∷ [])) xs
tied_more es e [] k = tt
tied_more es e (None ∷ xs) k = tied_more es e xs k
tied_more es e (Some x ∷ xs) k = (waiting_more x.tag es e k.0, k.1, tied_more es e xs k.2)

or_last : (a c : Bool) → c ≡ true → (a || c) ≡ true
or_last true c h = refl
or_last false c h = h

eqb_same : (t : ℕ) → eqb t t ≡ true
eqb_same t = grind (arith, nat_tests)

waiting_last : (t c d : ℕ) (es : List Entry) → waiting t (es ++ (new_entry t c (Some d) ∷ [])) ≡ true
waiting_last t c d [] = ap (λ b. (b && true) || false) (eqb_same t)
waiting_last t c d (x ∷ es) = or_last (takes t x) (waiting t (es ++ (new_entry t c (Some d) ∷ []))) (waiting_last t c d es)

-- a tag in flight is not a free one
other_tag : (t u : ℕ) (es : List Entry) → has_tag t es ≡ false → waiting u es ≡ true → eqb u t ≡ false
other_tag t u [] n w = let z : ◌≡◌ {A = ℕ} 0 1 = cc in absurd (omega arith)
other_tag t u (e ∷ es) n w =
    let p = or_parts (eqb e.tag t) (has_tag t es) n in
    split (eqb e.tag u) (is_pending e.status) refl w p.0 (other_tag t u es p.1)
  where
    split : (a b : Bool) → eqb e.tag u ≡ a → ((a && b) || waiting u es) ≡ true → eqb e.tag t ≡ false → (waiting u es ≡ true → eqb u t ≡ false) → eqb u t ≡ false
    split true b h k m ih = grind (arith, nat_tests)
    split false b h k m ih = ih k

pub unstaged : (t : ℕ) (es : List Entry) (xs : List (Option Stage)) → has_tag t es ≡ false → Tied es xs → staged t xs ≡ false
unstaged t es [] n k = refl
unstaged t es (None ∷ xs) n k = unstaged t es xs n k
unstaged t es (Some x ∷ xs) n k =
    ap (λ b. b || staged t xs) (other_tag t x.tag es n k.0) ∙ unstaged t es xs n k.2

staged_set : (t u : ℕ) (x : Stage) (xs : List (Option Stage)) (i : ℕ) → x.tag ≡ t → eqb t u ≡ false → get_or xs i None ≡ None → staged u (set xs i (Some x)) ≡ staged u xs
staged_set t u x [] i e n h = refl
staged_set t u x (None ∷ xs) zero e n h = ap (λ y. eqb y u || staged u xs) e ∙ ap (λ b. b || staged u xs) n
staged_set t u x (Some y ∷ xs) zero e n h = let z : ◌≡◌ {A = ℕ} 0 1 = cc in absurd (omega arith)
staged_set t u x (None ∷ xs) (suc i) e n h = staged_set t u x xs i e n h
staged_set t u x (Some y ∷ xs) (suc i) e n h = ap (λ b. eqb y.tag u || b) (staged_set t u x xs i e n h)

tied_set : (x : Stage) (es : List Entry) (xs : List (Option Stage)) (i : ℕ) → get_or xs i None ≡ None → waiting x.tag es ≡ true → staged x.tag xs ≡ false → Tied es xs → Tied es (set xs i (Some x))
tied_set x es [] i h w n k = tt
tied_set x es (None ∷ xs) zero h w n k = (w, n, k)
tied_set x es (Some y ∷ xs) zero h w n k = let z : ◌≡◌ {A = ℕ} 0 1 = cc in absurd (omega arith)
tied_set x es (None ∷ xs) (suc i) h w n k = tied_set x es xs i h w n k
tied_set x es (Some y ∷ xs) (suc i) h w n k =
    let p = or_parts (eqb y.tag x.tag) (staged x.tag xs) n in
    let ne : eqb x.tag y.tag ≡ false = let q = p.0 in grind (arith, nat_tests) in
    (k.0, staged_set x.tag y.tag x xs i refl ne h ∙ k.1, tied_set x es xs i h w p.1 k.2)

pub tied_issued : (t c d : ℕ) (r : Result ℕ Fault) (es : List Entry) (xs : List (Option Stage)) (i : ℕ) → get_or xs i None ≡ None → has_tag t es ≡ false → Tied es xs
    → Tied (es ++ (new_entry t c (Some d) ∷ [])) (set xs i (Some (record { tag = t; result = r })))
tied_issued t c d r es xs i h n k =
    tied_set (record { tag = t; result = r }) (es ++ (new_entry t c (Some d) ∷ [])) xs i h (waiting_last t c d es) (unstaged t es xs n k) (tied_more es (new_entry t c (Some d)) xs k)

-- the counters

pub counters_delivered : (t : ℕ) (s : Status) (es : List Entry) → Counters es → Counters (delivered t s es)
counters_delivered t s [] k = tt
counters_delivered t s (e ∷ es) k = (same (takes t e), counters_delivered t s es k.1)
  where
    same : (b : Bool) → (cond b (with_status e s) e).counter ≤ 65535
    same true = k.0
    same false = k.0

pub counters_more : (es : List Entry) (e : Entry) → e.counter ≤ 65535 → Counters es → Counters (es ++ (e ∷ []))
counters_more [] e h k = (h, tt)
counters_more (x ∷ es) e h k = (k.0, counters_more es e h k.1)

pub length_delivered : (t : ℕ) (s : Status) (es : List Entry) → length (delivered t s es) ≡ length es
length_delivered t s [] = refl
length_delivered t s (e ∷ es) = ap suc (length_delivered t s es)
