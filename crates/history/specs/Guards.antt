-- The invariant that a record that waits is clear of younger ones: what it gives a delivery, and how it is kept.
use Rattle.std.specs.Prelude.{◌≡◌, ℕ, zero, suc, ◌<◌, true, false, cond, not, ◌&&◌, ◌||◌, List, [], ◌∷◌, ◌++◌, length, get_or, drop, set, Some, None, Option, ◌≢◌, nat_lt, slice_index, slice_index_or, slice_set, refl}
use Rattle.std.proofs.Common.{ap, ◌∙◌, arith}
use Rattle.std.proofs.lemmas.Bool.{ne_eqb, eq-eqb, ltb-true, or_parts, and_parts, not-true, and_from}
use Rattle.std.proofs.lemmas.List.{set-set, get_or-set_same}
use Rattle.recovery.specs.declared.Status.{Status}
use Rattle.recovery.specs.Meaning.{is_register, put}
use Rattle.recovery.specs.Search.{or_else}
use Rattle.history.specs.declared.buffer.HistoryRecord.{HistoryRecord}
use Rattle.history.specs.declared.buffer.Progress.{Progress}
use Rattle.history.specs.declared.buffer.Progress.TheVariants.{Waiting, Finished, Failed}
use Rattle.history.specs.Unwind.{undo, unwind, word_at, status_of, slot_of, slots_of, named, clear, guarded, newest_progress}
use Rattle.history.specs.Unwinding.{unused, unwind_set, slots_set, length_unwind}

-- a record that has made progress
abbrev pub moved_to : HistoryRecord → Progress → HistoryRecord
moved_to x s = record { counter = x.counter; destination = x.destination; old = x.old; progress = s }

pub guard_at : (i : ℕ) (xs : List HistoryRecord) → i < length xs → guarded xs ≡ true → clear (get_or xs i unused).progress (get_or xs i unused).destination (drop (suc i) xs) ≡ true
guard_at i [] l g = absurd (omega arith)
guard_at zero (x ∷ xs) l g = (and_parts (clear x.progress x.destination xs) (guarded xs) g).0
guard_at (suc i) (x ∷ xs) l g = guard_at i xs (omega arith) (and_parts (clear x.progress x.destination xs) (guarded xs) g).1

-- what a result does to the records younger than its own
pub behind_it : (e : Option ℕ) (v w : ℕ) (zs : List HistoryRecord) (ws : List ℕ) → length ws ≡ 16 → clear Waiting e zs ≡ true → (put (unwind zs (put ws e w)) e v ≡ put (unwind zs ws) e v) × (slots_of zs (put ws e w) ≡ slots_of zs ws) × (word_at (unwind zs (put ws e w)) e ≡ w)
behind_it None v w zs ws l h = grind arith
behind_it (Some d) v w zs ws l h =
    let p = and_parts (nat_lt d 16) (not (named d zs)) h in
    let n = not-true (named d zs) p.1 in
    let lt = ltb-true d 16 p.0 in
    let u = unwind_set d w zs ws n in (
      ap (λ g. set g d v) u ∙ set-set (unwind zs ws) d w v,
      slots_set d w zs ws n,
      ap (λ g. slice_index g d) u ∙ get_or-set_same (unwind zs ws) d w 0 (omega (arith, length_unwind zs ws)),
    )

-- one record makes progress, and the file may change with it
pub changed : (i : ℕ) (s : Progress) (st : Status) (ws vs : List ℕ) (xs : List HistoryRecord) → i < length xs
    → put (unwind (drop (suc i) xs) vs) (get_or xs i unused).destination (get_or xs i unused).old ≡ put (unwind (drop (suc i) xs) ws) (get_or xs i unused).destination (get_or xs i unused).old
    → slots_of (drop (suc i) xs) vs ≡ slots_of (drop (suc i) xs) ws
    → status_of s (word_at (unwind (drop (suc i) xs) vs) (get_or xs i unused).destination) ≡ st
    → (unwind (slice_set xs i (moved_to (slice_index_or xs i unused) s)) vs ≡ unwind xs ws) × (slots_of (slice_set xs i (moved_to (slice_index_or xs i unused) s)) vs ≡ slice_set (slots_of xs ws) i (record { counter = (get_or xs i unused).counter; destination = (get_or xs i unused).destination; status = st }))
changed i s st ws vs [] l a b c = absurd (omega arith)
changed zero s st ws vs (x ∷ xs) l a b c = (
  a,
  ap (λ k. record { counter = x.counter; destination = x.destination; status = k } ∷ slots_of xs vs) c ∙ ap (λ ss. record { counter = x.counter; destination = x.destination; status = st } ∷ ss) b,
)
changed (suc i) s st ws vs (x ∷ xs) l a b c =
    let k = changed i s st ws vs xs (omega arith) a b c in (
      ap (undo x) k.0,
      ap (λ g. slot_of x g ∷ slots_of (slice_set xs i (moved_to (slice_index_or xs i unused) s)) vs) k.0 ∙ ap (λ ss. slot_of x (unwind xs ws) ∷ ss) k.1,
    )

named_set : (d i : ℕ) (s : Progress) (xs : List HistoryRecord) → named d (slice_set xs i (moved_to (slice_index_or xs i unused) s)) ≡ named d xs
named_set d i s [] = refl
named_set d zero s (x ∷ xs) = refl
named_set d (suc i) s (x ∷ xs) = ap (λ b. is_register x.destination d || b) (named_set d i s xs)

clear_set : (k : Progress) (e : Option ℕ) (i : ℕ) (s : Progress) (xs : List HistoryRecord) → clear k e (slice_set xs i (moved_to (slice_index_or xs i unused) s)) ≡ clear k e xs
clear_set Waiting None i s xs = refl
clear_set Waiting (Some d) i s xs = ap (λ b. nat_lt d 16 && not b) (named_set d i s xs)
clear_set Finished e i s xs = refl
clear_set (Failed f) e i s xs = refl

pub guard_set : (i : ℕ) (s : Progress) (xs : List HistoryRecord) → ((e : Option ℕ) (zs : List HistoryRecord) → clear s e zs ≡ true) → guarded xs ≡ true → guarded (slice_set xs i (moved_to (slice_index_or xs i unused) s)) ≡ true
guard_set i s [] ok g = refl
guard_set zero s (x ∷ xs) ok g = and_from (clear s x.destination xs) (guarded xs) (ok x.destination xs) (and_parts (clear x.progress x.destination xs) (guarded xs) g).1
guard_set (suc i) s (x ∷ xs) ok g =
    let p = and_parts (clear x.progress x.destination xs) (guarded xs) g in
    and_from (clear x.progress x.destination (slice_set xs i (moved_to (slice_index_or xs i unused) s))) (guarded (slice_set xs i (moved_to (slice_index_or xs i unused) s))) (clear_set x.progress x.destination i s xs ∙ p.0) (guard_set i s xs ok p.1)

-- An admission

named_push : (d : ℕ) (y : HistoryRecord) (xs : List HistoryRecord) → is_register y.destination d ≡ false → named d xs ≡ false → named d (xs ++ (y ∷ [])) ≡ false
named_push d y [] h k = ap (λ b. b || false) h
named_push d y (x ∷ xs) h k =
    let p = or_parts (is_register x.destination d) (named d xs) k in
    ap (λ b. b || named d (xs ++ (y ∷ []))) p.0 ∙ named_push d y xs h p.1

unnamed_none : (r : ℕ) (xs : List HistoryRecord) → named r xs ≡ false → newest_progress r xs ≡ None
unnamed_none r [] h = refl
unnamed_none r (x ∷ xs) h =
    let p = or_parts (is_register x.destination r) (named r xs) h in
    ap (λ o. or_else o (cond (is_register x.destination r) (Some x.progress) None)) (unnamed_none r xs p.1) ∙ ap (λ b. cond b (Some x.progress) None) p.0

-- no record of the list waits for the destination
abbrev pub Idle : Option ℕ → List HistoryRecord → Type 0
Idle d xs = (r : ℕ) → d ≡ Some r → newest_progress r xs ≢ Some Waiting

other : (d : Option ℕ) (e : ℕ) → (d ≢ Some e) → is_register d e ≡ false
other None e h = refl
other (Some r) e h = ne_eqb r e (λ q. h (ap Some q))

clear_push : (k : Progress) (e : Option ℕ) (x : HistoryRecord) (y : HistoryRecord) (xs : List HistoryRecord) → x.progress ≡ k → x.destination ≡ e → Idle y.destination (x ∷ xs) → clear k e xs ≡ true → clear k e (xs ++ (y ∷ [])) ≡ true
clear_push Waiting None x y xs ks es i h = h
clear_push Waiting (Some d) x y xs ks es i h =
    let p = and_parts (nat_lt d 16) (not (named d xs)) h in
    let n = not-true (named d xs) p.1 in
    let b : is_register x.destination d ≡ true = ap (λ o. is_register o d) es ∙ eq-eqb d d refl in
    let o : is_register y.destination d ≡ false = other y.destination d (λ q. i d q (ap (λ o. or_else o (cond (is_register x.destination d) (Some x.progress) None)) (unnamed_none d xs n) ∙ (ap (λ c. cond c (Some x.progress) None) b ∙ ap Some ks))) in
    ap (λ c. c && not (named d (xs ++ (y ∷ [])))) p.0 ∙ ap not (named_push d y xs o n)
clear_push Finished e x y xs ks es i h = refl
clear_push (Failed f) e x y xs ks es i h = refl

pub guard_push : (y : HistoryRecord) (xs : List HistoryRecord) → Idle y.destination xs → clear y.progress y.destination [] ≡ true → guarded xs ≡ true → guarded (xs ++ (y ∷ [])) ≡ true
guard_push y [] i h g = and_from (clear y.progress y.destination []) true h refl
guard_push y (x ∷ xs) i h g =
    let p = and_parts (clear x.progress x.destination xs) (guarded xs) g in
    and_from (clear x.progress x.destination (xs ++ (y ∷ []))) (guarded (xs ++ (y ∷ [])))
    (clear_push x.progress x.destination x y xs refl refl i p.0)
    (guard_push y xs (λ r q w. i r q (ap (λ o. or_else o (cond (is_register x.destination r) (Some x.progress) None)) w)) h p.1)
