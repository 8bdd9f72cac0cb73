-- Slots with consecutive tags, as a flight: the search, a fresh tag, and a delivery at a place.
use Rattle.std.proofs.Common.{◌≡◌, ℕ, zero, suc, ◌+◌, ◌-◌, ◌%◌, ◌<◌, ◌≤◌, Bool, true, false, cond, ◌&&◌, ◌||◌, eqb, List, [], ◌∷◌, ◌++◌, length, get_or, take, drop, set, Some, None, Option, sym, refl, ap, ◌∙◌, ⊎_elim, add-one, arith}
use Rattle.std.proofs.lemmas.Bool.{ne_eqb, eq-eqb, cases_eq, and_left, and_right}
use Rattle.std.proofs.lemmas.List.{length-take, get_or-take}
use Rattle.recovery.specs.declared.Status.{Status}
use Rattle.recovery.specs.declared.Status.TheVariants.{Pending}
use Rattle.recovery.specs.Meaning.{Entry, youngest, has_tag, waiting, delivered, takes, is_pending, with_status}
use Rattle.recovery.specs.Search.{or_else, last_of, last_index, behind}
use Rattle.recovery.specs.declared.slots.Slot.{Slot}
use Rattle.recovery.specs.Slots.{slot_names, entry_of, flight_of, status_in}

-- what an array's read takes past its end
abbrev pub d0 : Slot
d0 = record { counter = 0; destination = None; status = Pending }

pub flight_length : (t : ℕ) (ss : List Slot) → length (flight_of t ss) ≡ length ss
flight_length t [] = refl
flight_length t (s ∷ ss) = ap suc (flight_length ((t + 1) % 256) ss)

pub in_or : (o : Option Entry) (b : Bool) (e : Entry) → status_in (or_else o (cond b (Some e) None)) ≡ or_else (status_in o) (cond b (Some e.status) None)
in_or (Some x) b e = refl
in_or None true e = refl
in_or None false e = refl

abbrev pub slot_status : Option Slot → Option Status
slot_status None = None
slot_status (Some s) = Some s.status

slot_or : (o : Option Slot) (b : Bool) (s : Slot) → slot_status (or_else o (cond b (Some s) None)) ≡ or_else (slot_status o) (cond b (Some s.status) None)
slot_or (Some x) b s = refl
slot_or None true s = refl
slot_or None false s = refl

-- the search over the slots is the search over the flight
pub found : (t r : ℕ) (ss : List Slot) → status_in (youngest r (flight_of t ss)) ≡ slot_status (last_of (λ s. slot_names s r) ss)
found t r [] = refl
found t r (s ∷ ss) =
    in_or (youngest r (flight_of ((t + 1) % 256) ss)) (slot_names s r) (entry_of t s)
    ∙ (ap (λ o. or_else o (cond (slot_names s r) (Some s.status) None)) (found ((t + 1) % 256) r ss)
    ∙ sym (slot_or (last_of (λ x. slot_names x r) ss) (slot_names s r) s))

pub behind_within : (o : Option ℕ) (b : Bool) (i n : ℕ) → ((j : ℕ) → o ≡ Some j → j < n) → behind o b ≡ Some i → i < suc n
behind_within (Some j) b i n h e = let l = h j refl in let q : j + 1 ≡ i = cc in omega arith
behind_within None true i n h e = let q : 0 ≡ i = cc in omega arith
behind_within None false i n h e = let z : ◌≡◌ {A = ℕ} 0 1 = cc in omega arith

pub within : {A : Type 0} (p : A → Bool) (xs : List A) (i : ℕ) → last_index p xs ≡ Some i → i < length xs
within p [] i e = let z : ◌≡◌ {A = ℕ} 0 1 = cc in omega arith
within p (x ∷ xs) i e = behind_within (last_index p xs) (p x) i (length xs) (within p xs) e

pub pushed : (t : ℕ) (ss : List Slot) (s : Slot) → t < 256 → flight_of t (ss ++ (s ∷ [])) ≡ flight_of t ss ++ (entry_of ((t + length ss) % 256) s ∷ [])
pushed t [] s h = let e : t ≡ (t + 0) % 256 = omega arith in ap (λ u. entry_of u s ∷ []) e
pushed t (x ∷ ss) s h =
    let k : (t + 1) % 256 < 256 = omega arith in
    let e : ((t + 1) % 256 + length ss) % 256 ≡ (t + suc (length ss)) % 256 = omega arith in
    ap (λ es. entry_of t x ∷ es) (pushed ((t + 1) % 256) ss s k ∙ ap (λ u. flight_of ((t + 1) % 256) ss ++ (entry_of u s ∷ [])) e)

pub absent : (t u : ℕ) (ss : List Slot) → t < 256 → ((i : ℕ) → i < length ss → (t + i) % 256 ≡ u → ⊥) → has_tag u (flight_of t ss) ≡ false
absent t u [] h k = refl
absent t u (s ∷ ss) h k =
    let n : t ≡ u → ⊥ = λ e. k 0 (omega arith) (omega arith) in
    let l : (t + 1) % 256 < 256 = omega arith in
    let rest = absent ((t + 1) % 256) u ss l (λ i q e. k (suc i) (omega arith) (omega arith)) in
    ap (λ b. b || has_tag u (flight_of ((t + 1) % 256) ss)) (ne_eqb t u n) ∙ rest

pub fresh : (t : ℕ) (ss : List Slot) → t < 256 → length ss < 256 → has_tag ((t + length ss) % 256) (flight_of t ss) ≡ false
fresh t ss h k = absent t ((t + length ss) % 256) ss h (λ i q e. omega arith)

not_taken : (t u : ℕ) (s : Slot) → (t ≡ u → is_pending s.status ≡ false) → takes u (entry_of t s) ≡ false
not_taken t u s h =
    ⊎_elim
    (λ e. ap (λ b. eqb t u && b) (h e) ∙ and_right (eqb t u) false refl)
    (λ n. and_left (eqb t u) (is_pending s.status) (ne_eqb t u n))
    (cases_eq t u)

-- a delivery that finds no pending entry
pub idle : (t u : ℕ) (st : Status) (ss : List Slot) → t < 256 → ((i : ℕ) → i < length ss → (t + i) % 256 ≡ u → is_pending (get_or ss i d0).status ≡ false) → (waiting u (flight_of t ss) ≡ false) × (delivered u st (flight_of t ss) ≡ flight_of t ss)
idle t u st [] h k = (refl, refl)
idle t u st (s ∷ ss) h k =
    let l : (t + 1) % 256 < 256 = omega arith in
    let rest = idle ((t + 1) % 256) u st ss l (λ i q e. k (suc i) (omega arith) (omega arith)) in
    let no : takes u (entry_of t s) ≡ false = not_taken t u s (λ e. k 0 (omega arith) (omega arith)) in (
      ap (λ b. b || waiting u (flight_of ((t + 1) % 256) ss)) no ∙ rest.0,
      ap (λ b. cond b (with_status (entry_of t s) st) (entry_of t s) ∷ delivered u st (flight_of ((t + 1) % 256) ss)) no ∙ ap (λ es. entry_of t s ∷ es) rest.1,
    )

-- a delivery to the pending entry at i
pub hit : (t u i : ℕ) (st : Status) (ss : List Slot) → t < 256 → i < length ss → length ss ≤ 256 → (t + i) % 256 ≡ u → (get_or ss i d0).status ≡ Pending → (waiting u (flight_of t ss) ≡ true) × (delivered u st (flight_of t ss) ≡ flight_of t (set ss i (record { counter = (get_or ss i d0).counter; destination = (get_or ss i d0).destination; status = st })))
hit t u i st [] h l m e p = absurd (omega arith)
hit t u zero st (s ∷ ss) h l m e p =
    let k : (t + 1) % 256 < 256 = omega arith in
    let rest = idle ((t + 1) % 256) u st ss k (λ i q f. absurd (omega arith)) in
    let q : eqb t u ≡ true = eq-eqb t u (omega arith) in
    let yes : takes u (entry_of t s) ≡ true = ap (λ b. b && is_pending s.status) q ∙ ap is_pending p in (
      ap (λ b. b || waiting u (flight_of ((t + 1) % 256) ss)) yes,
      ap (λ b. cond b (with_status (entry_of t s) st) (entry_of t s) ∷ delivered u st (flight_of ((t + 1) % 256) ss)) yes ∙ ap (λ es. with_status (entry_of t s) st ∷ es) rest.1,
    )
hit t u (suc i) st (s ∷ ss) h l m e p =
    let k : (t + 1) % 256 < 256 = omega arith in
    let rest = hit ((t + 1) % 256) u i st ss k (omega arith) (omega arith) (omega arith) p in
    let no : takes u (entry_of t s) ≡ false = not_taken t u s (λ f. absurd (omega arith)) in (
      ap (λ b. b || waiting u (flight_of ((t + 1) % 256) ss)) no ∙ rest.0,
      ap (λ b. cond b (with_status (entry_of t s) st) (entry_of t s) ∷ delivered u st (flight_of ((t + 1) % 256) ss)) no ∙ ap (λ es. entry_of t s ∷ es) rest.1,
    )

-- For a scheme that keeps its slots in an array of its own with a count beside it: the same, over the slots in use.

-- the status of the slot at an index
abbrev pub status_at : List Slot → Option ℕ → Option Status
status_at ss None = None
status_at ss (Some i) = Some (get_or ss i d0).status

at_behind : (s : Slot) (ss : List Slot) (o : Option ℕ) (b : Bool) → status_at (s ∷ ss) (behind o b) ≡ or_else (status_at ss o) (cond b (Some s.status) None)
at_behind s ss (Some i) b = rw add-one
at_behind s ss None true = refl
at_behind s ss None false = refl

-- the youngest entry that names a register is at the last index of a slot that does
pub found_at : (t r : ℕ) (ss : List Slot) → status_in (youngest r (flight_of t ss)) ≡ status_at ss (last_index (λ s. slot_names s r) ss)
found_at t r [] = refl
found_at t r (s ∷ ss) =
    in_or (youngest r (flight_of ((t + 1) % 256) ss)) (slot_names s r) (entry_of t s)
    ∙ (ap (λ o. or_else o (cond (slot_names s r) (Some s.status) None)) (found_at ((t + 1) % 256) r ss)
    ∙ sym (at_behind s ss (last_index (λ x. slot_names x r) ss) (slot_names s r)))

-- the front of what is in use
pub front : (n : ℕ) (ss : List Slot) → 0 < n → 0 < length ss → take n ss ≡ get_or ss 0 d0 ∷ take (n - 1) (drop 1 ss)
front n [] h k = absurd (omega arith)
front zero (s ∷ ss) h k = absurd (omega arith)
front (suc n) (s ∷ ss) h k = let e : suc n - 1 ≡ n = omega arith in rw e

-- what the search over the slots in use tells
module _ (t n r : ℕ) (ss : List Slot) where
  pub newest_within : (i : ℕ) → Some i ≡ last_index (λ s. slot_names s r) (take (n - 0) ss) → i < n
  newest_within i h =
      let w = within (λ s. slot_names s r) (take (n - 0) ss) i (sym h) in
      omega (arith, length-take (n - 0) ss)

  pub newest_some : (i : ℕ) → Some i ≡ last_index (λ s. slot_names s r) (take (n - 0) ss) → Some (get_or ss i d0).status ≡ status_in (youngest r (flight_of t (take n ss)))
  newest_some i h =
      let e : n - 0 ≡ n = omega arith in
      let l = newest_within i h in
      let f = found_at t r (take n ss) in
      let g = rw e at h in
      sym (f ∙ (ap (status_at (take n ss)) (sym g) ∙ ap (λ s. Some s.status) (get_or-take n ss i d0 l)))

  pub newest_none : None ≡ last_index (λ s. slot_names s r) (take (n - 0) ss) → None ≡ status_in (youngest r (flight_of t (take n ss)))
  newest_none h =
      let e : n - 0 ≡ n = omega arith in
      let f = found_at t r (take n ss) in
      let g = rw e at h in
      sym (f ∙ ap (status_at (take n ss)) (sym g))
