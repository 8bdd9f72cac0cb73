-- The guard of pending entries, through an admission and a delivery.
use Rattle.std.proofs.Common.{◌≡◌, ℕ, Bool, true, false, cond, not, ltb, List, [], ◌∷◌, ◌++◌, is_some, Some, None, Ok, Err, Option, Result, refl, ap, ◌∙◌, arith}
use Rattle.std.proofs.lemmas.Bool.{ne_eqb, eq-eqb, and_parts, and_from}
use Rattle.isa.specs.declared.fault.Fault.{Fault}
use Rattle.recovery.specs.declared.Status.{Status}
use Rattle.recovery.specs.declared.Status.TheVariants.{Pending, Done, Faulted}
use Rattle.recovery.specs.Search.{or_else}
use Rattle.recovery.specs.Meaning.{Entry, is_register, names, youngest, unready, held_up, takes, with_status, delivered, ended}
use Rattle.future.specs.Current.{clear, guarded}
use Rattle.future.proofs.Words.{none_parts, none_from, held_rest}

some_none : (o : Option Entry) → not (is_some o) ≡ true → o ≡ None
some_none None h = refl
some_none (Some e) h = grind arith

-- a pending entry's destination is below 16 and named by no younger one
pub clear_parts : (r : ℕ) (es : List Entry) → clear Pending (Some r) es ≡ true → (ltb r 16 ≡ true) × (youngest r es ≡ None)
clear_parts r es h =
    let p = and_parts (ltb r 16) (not (is_some (youngest r es))) h in
    (p.0, some_none (youngest r es) p.1)

-- an entry stays clear of other entries that do not name its destination either
clear_more : (s : Status) (d : Option ℕ) (es fs : List Entry) → ((r : ℕ) → s ≡ Pending → d ≡ Some r → youngest r es ≡ None → youngest r fs ≡ None) → clear s d es ≡ true → clear s d fs ≡ true
clear_more Pending None es fs k h = h
clear_more Pending (Some r) es fs k h =
    let p = clear_parts r es h in
    and_from (ltb r 16) (not (is_some (youngest r fs))) p.0 (ap (λ o. not (is_some o)) (k r refl refl p.1))
clear_more (Done w) d es fs k h = refl
clear_more (Faulted f) d es fs k h = refl

-- the destination of a new entry is not held up
abbrev pub Idle : Option ℕ → List Entry → Type 0
Idle d es = (r : ℕ) → d ≡ Some r → held_up (youngest r es) ≡ false

other : (d : Option ℕ) (r : ℕ) → (d ≡ Some r → ⊥) → is_register d r ≡ false
other None r h = refl
other (Some e) r h = ne_eqb e r (λ q. h (ap Some q))

none_push : (r : ℕ) (y : Entry) (es : List Entry) → names r y ≡ false → youngest r es ≡ None → youngest r (es ++ (y ∷ [])) ≡ None
none_push r y [] h k = none_from r y [] h refl
none_push r y (e ∷ es) h k =
    let p = none_parts r e es k in
    none_from r e (es ++ (y ∷ [])) p.0 (none_push r y es h p.1)

-- a pending entry that names a register, and that no younger one does, holds it up
holds_up : (r : ℕ) (e : Entry) (es : List Entry) → e.status ≡ Pending → e.destination ≡ Some r → youngest r es ≡ None → held_up (youngest r (e ∷ es)) ≡ true
holds_up r e es p q n =
    let t : names r e ≡ true = ap (λ d. is_register d r) q ∙ eq-eqb r r refl in
    ap (λ o. held_up (or_else o (cond (names r e) (Some e) None))) n
    ∙ (ap (λ b. held_up (cond b (Some e) None)) t ∙ ap unready p)

pub guarded_push : (y : Entry) (es : List Entry) → Idle y.destination es → clear y.status y.destination [] ≡ true → guarded es ≡ true → guarded (es ++ (y ∷ [])) ≡ true
guarded_push y [] i h g = and_from (clear y.status y.destination []) true h refl
guarded_push y (e ∷ es) i h g =
    let p = and_parts (clear e.status e.destination es) (guarded es) g in
    and_from (clear e.status e.destination (es ++ (y ∷ []))) (guarded (es ++ (y ∷ [])))
    (clear_more e.status e.destination es (es ++ (y ∷ [])) (λ r s d n. none_push r y es (other y.destination r (λ q.
    let t = holds_up r e es s d n in
    let f = i r q in
    grind arith)) n) p.0)
    (guarded_push y es (λ r q. held_rest (youngest r es) (cond (names r e) (Some e) None) (i r q)) h p.1)

-- a delivery changes no destination
same_names : (b : Bool) (e : Entry) (s : Status) (r : ℕ) → names r (cond b (with_status e s) e) ≡ names r e
same_names true e s r = refl
same_names false e s r = refl

none_delivered : (u r : ℕ) (s : Status) (es : List Entry) → youngest r es ≡ None → youngest r (delivered u s es) ≡ None
none_delivered u r s [] h = refl
none_delivered u r s (e ∷ es) h =
    let p = none_parts r e es h in
    none_from r (cond (takes u e) (with_status e s) e) (delivered u s es) (same_names (takes u e) e s r ∙ p.0) (none_delivered u r s es p.1)

clear_ended : (r : Result ℕ Fault) (d : Option ℕ) (es : List Entry) → clear (ended r) d es ≡ true
clear_ended (Ok w) d es = refl
clear_ended (Err f) d es = refl

clear_turned : (b : Bool) (e : Entry) (r : Result ℕ Fault) (es : List Entry) → clear e.status e.destination es ≡ true → clear (cond b (with_status e (ended r)) e).status (cond b (with_status e (ended r)) e).destination es ≡ true
clear_turned true e r es h = clear_ended r e.destination es
clear_turned false e r es h = h

pub guarded_delivered : (u : ℕ) (r : Result ℕ Fault) (es : List Entry) → guarded es ≡ true → guarded (delivered u (ended r) es) ≡ true
guarded_delivered u r [] g = refl
guarded_delivered u r (e ∷ es) g =
    let p = and_parts (clear e.status e.destination es) (guarded es) g in
    let k = clear_more e.status e.destination es (delivered u (ended r) es) (λ q s d n. none_delivered u q (ended r) es n) p.0 in
    and_from (clear (cond (takes u e) (with_status e (ended r)) e).status (cond (takes u e) (with_status e (ended r)) e).destination (delivered u (ended r) es)) (guarded (delivered u (ended r) es))
    (clear_turned (takes u e) e r (delivered u (ended r) es) k)
    (guarded_delivered u r es p.1)
