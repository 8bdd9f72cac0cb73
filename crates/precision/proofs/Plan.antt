-- What a flight comes to stays as stages are delivered and move on, and an issue adds one entry to it.
use Rattle.std.proofs.Common.{◌≡◌, ℕ, zero, suc, ◌<◌, Bool, true, false, cond, ◌&&◌, eqb, List, [], ◌∷◌, ◌++◌, length, get_or, drop, set, Some, None, Ok, Err, Option, Result, refl, ap, ◌∙◌, ap₂, arith}
use Rattle.std.proofs.lemmas.Bool.{or_parts, and_left, and_right, cond-true, cond-false, eq-eqb, and_from}
use Rattle.std.proofs.lemmas.Bool.Decides.{nat_tests}
use Rattle.isa.specs.declared.fault.Fault.{Fault}
use Rattle.recovery.specs.declared.Status.{Status}
use Rattle.recovery.specs.declared.Status.TheVariants.{Pending}
use Rattle.recovery.specs.Meaning.{Meaning, Entry, has_tag, is_pending, ended, takes, with_status, delivered}
use Rattle.pickcore.specs.declared.stages.Stage.{Stage}
use Rattle.pickcore.specs.Cycle.{delivers}
use Rattle.pickcore.specs.Sound.{staged, Tied}
use Rattle.pickcore.proofs.Ties.{unstaged}
use Rattle.precision.specs.Beside.{fate, come_to, foreseen}

-- what an entry comes to

pub ended_known : (r : Result ℕ Fault) → is_pending (ended r) ≡ false
ended_known (Ok w) = refl
ended_known (Err f) = refl

fate_end : (xs : List (Option Stage)) (t : ℕ) (y : Status) → fate (xs ++ (None ∷ [])) t y ≡ fate xs t y
fate_end [] t y = refl
fate_end (None ∷ xs) t y = fate_end xs t y
fate_end (Some x ∷ xs) t y = fate_end xs t (cond (eqb t x.tag && is_pending y) (ended x.result) y)

-- a stage that is not for the entry
fate_past : (x : Stage) (xs : List (Option Stage)) (t : ℕ) (y : Status) → (eqb t x.tag && is_pending y) ≡ false → fate (Some x ∷ xs) t y ≡ fate xs t y
fate_past x xs t y h = ap (fate xs t) (cond-false (eqb t x.tag && is_pending y) (ended x.result) y h)

-- an entry that is not pending waits for no stage
pub fate_known : (xs : List (Option Stage)) (t : ℕ) (y : Status) → is_pending y ≡ false → fate xs t y ≡ y
fate_known [] t y h = refl
fate_known (None ∷ xs) t y h = fate_known xs t y h
fate_known (Some x ∷ xs) t y h = fate_past x xs t y (and_right (eqb t x.tag) (is_pending y) h) ∙ fate_known xs t y h

-- neither does one whose tag no stage has
pub other_tag : (t u : ℕ) → eqb u t ≡ false → eqb t u ≡ false
other_tag t u h = grind (arith, nat_tests)

pub fate_unstaged : (xs : List (Option Stage)) (t : ℕ) (y : Status) → staged t xs ≡ false → fate xs t y ≡ y
fate_unstaged [] t y h = refl
fate_unstaged (None ∷ xs) t y h = fate_unstaged xs t y h
fate_unstaged (Some x ∷ xs) t y h =
    let p = or_parts (eqb x.tag t) (staged t xs) h in
    fate_past x xs t y (and_left (eqb t x.tag) (is_pending y) (other_tag t x.tag p.0)) ∙ fate_unstaged xs t y p.1

-- a free stage is taken, for another entry or for this one

fate_set_other : (x : Stage) (xs : List (Option Stage)) (i u : ℕ) (y : Status) → get_or xs i None ≡ None → eqb u x.tag ≡ false → fate (set xs i (Some x)) u y ≡ fate xs u y
fate_set_other x [] i u y h n = refl
fate_set_other x (None ∷ xs) zero u y h n = fate_past x xs u y (and_left (eqb u x.tag) (is_pending y) n)
fate_set_other x (Some v ∷ xs) zero u y h n = let z : ◌≡◌ {A = ℕ} 0 1 = cc in absurd (omega arith)
fate_set_other x (None ∷ xs) (suc i) u y h n = fate_set_other x xs i u y h n
fate_set_other x (Some v ∷ xs) (suc i) u y h n = fate_set_other x xs i u (cond (eqb u v.tag && is_pending y) (ended v.result) y) h n

fate_set_same : (t : ℕ) (r : Result ℕ Fault) (xs : List (Option Stage)) (i : ℕ) → get_or xs i None ≡ None → staged t xs ≡ false → i < length xs
    → fate (set xs i (Some (record { tag = t; result = r }))) t Pending ≡ ended r
fate_set_same t r [] i h n l = absurd (omega arith)
fate_set_same t r (None ∷ xs) zero h n l =
    ap (fate xs t) (cond-true (eqb t t && true) (ended r) Pending (and_from (eqb t t) true (eq-eqb t t refl) refl)) ∙ fate_known xs t (ended r) (ended_known r)
fate_set_same t r (Some v ∷ xs) zero h n l = let z : ◌≡◌ {A = ℕ} 0 1 = cc in absurd (omega arith)
fate_set_same t r (None ∷ xs) (suc i) h n l = fate_set_same t r xs i h n (omega arith)
fate_set_same t r (Some v ∷ xs) (suc i) h n l =
    let p = or_parts (eqb v.tag t) (staged t xs) n in
    fate_past v (set xs i (Some (record { tag = t; result = r }))) t Pending (and_left (eqb t v.tag) true (other_tag t v.tag p.0))
    ∙ fate_set_same t r xs i h p.1 (omega arith)

-- a whole flight

foreseen_by : (xs zs : List (Option Stage)) → ((t : ℕ) (y : Status) → fate xs t y ≡ fate zs t y) → (es : List Entry) → foreseen xs es ≡ foreseen zs es
foreseen_by xs zs h [] = refl
foreseen_by xs zs h (e ∷ es) = ap₂ (λ y fs. with_status e y ∷ fs) (h e.tag e.status) (foreseen_by xs zs h es)

come_to_delivered : (b : Bool) (xs : List (Option Stage)) (e : Entry) (y : Status) → come_to (xs ++ (None ∷ [])) (cond b (with_status e y) e) ≡ with_status e (fate xs e.tag (cond b y e.status))
come_to_delivered true xs e y = ap (with_status e) (fate_end xs e.tag y)
come_to_delivered false xs e y = ap (with_status e) (fate_end xs e.tag e.status)

foreseen_delivered : (x : Stage) (xs : List (Option Stage)) (es : List Entry) → foreseen (xs ++ (None ∷ [])) (delivered x.tag (ended x.result) es) ≡ foreseen (Some x ∷ xs) es
foreseen_delivered x xs [] = refl
foreseen_delivered x xs (e ∷ es) = ap₂ (λ f fs. f ∷ fs) (come_to_delivered (takes x.tag e) xs e (ended x.result)) (foreseen_delivered x xs es)

-- rules 1 and 2: the first stage is delivered, and the others move on
pub foreseen_moved : (m : Meaning) (xs : List (Option Stage)) → foreseen (drop 1 (set xs 0 None) ++ (None ∷ [])) (delivers m (get_or xs 0 None)).flight ≡ foreseen xs m.flight
foreseen_moved m [] = foreseen_by (None ∷ []) [] (λ t y. refl) m.flight
foreseen_moved m (None ∷ xs) = foreseen_by (xs ++ (None ∷ [])) (None ∷ xs) (fate_end xs) m.flight
foreseen_moved m (Some x ∷ xs) = foreseen_delivered x xs m.flight

-- rule 7: an entry without a stage, and one with a stage of its own

pub foreseen_more : (xs : List (Option Stage)) (es : List Entry) (e : Entry) → foreseen xs (es ++ (e ∷ [])) ≡ foreseen xs es ++ (come_to xs e ∷ [])
foreseen_more xs [] e = refl
foreseen_more xs (f ∷ es) e = ap (λ fs. come_to xs f ∷ fs) (foreseen_more xs es e)

pub foreseen_issued : (x : Stage) (xs : List (Option Stage)) (i : ℕ) (es : List Entry) (e : Entry) → get_or xs i None ≡ None → has_tag x.tag es ≡ false
    → foreseen (set xs i (Some x)) (es ++ (e ∷ [])) ≡ foreseen xs es ++ (come_to (set xs i (Some x)) e ∷ [])
foreseen_issued x xs i [] e h n = refl
foreseen_issued x xs i (f ∷ es) e h n =
    let p = or_parts (eqb f.tag x.tag) (has_tag x.tag es) n in
    ap₂ (λ y fs. with_status f y ∷ fs) (fate_set_other x xs i f.tag f.status h p.0) (foreseen_issued x xs i es e h p.1)

pub fate_issued : (t : ℕ) (r : Result ℕ Fault) (xs : List (Option Stage)) (i : ℕ) (es : List Entry) → get_or xs i None ≡ None → has_tag t es ≡ false → Tied es xs → i < length xs
    → fate (set xs i (Some (record { tag = t; result = r }))) t Pending ≡ ended r
fate_issued t r xs i es h n k l = fate_set_same t r xs i h (unstaged t es xs n k) l
