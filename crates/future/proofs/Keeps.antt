-- Each step keeps the newest file right.
use Rattle.std.proofs.Common.{◌≡◌, ℕ, zero, suc, ◌+◌, ◌%◌, ◌<◌, Bool, true, false, cond, ltb, List, [], ◌∷◌, ◌++◌, length, get_or, set, option_and_then, slice_get, Some, None, Ok, Err, Option, Result, sym, refl, ap, ◌∙◌, arith}
use Rattle.std.proofs.lemmas.Bool.{ltb-true, and_parts, and_from}
use Rattle.std.proofs.lemmas.Option.{slice_get-get_or}
use Rattle.isa.specs.declared.fault.Fault.{Fault}
use Rattle.recovery.specs.declared.Status.{Status}
use Rattle.recovery.specs.declared.Status.TheVariants.{Pending}
use Rattle.recovery.specs.declared.Timing.TheVariants.{Early}
use Rattle.recovery.specs.declared.slots.Slot.{Slot}
use Rattle.recovery.specs.Meaning.{Entry, Meaning, youngest, held_up, awaited, awaited_destination, full, first_status, new_entry, with_flight, admit_leaves, ended, deliver_leaves, word_in, look_answer}
use Rattle.recovery.specs.Slots.{flight_of}
use Rattle.recovery.proofs.Flights.{d0, hit}
use Rattle.reorder.specs.declared.buffer.Buffer.{Buffer}
use Rattle.reorder.specs.Mean.{mean, taker_at, taken_slot}
use Rattle.reorder.specs.Steps.{taken, delivers_none}
use Rattle.future.specs.Current.{put_done, current, clear, guarded, Follows, written}
use Rattle.future.proofs.Words.{current_set, current_new, current_read}
use Rattle.future.proofs.Guards.{clear_parts, guarded_push, guarded_delivered}

abbrev newest_of : Meaning → List ℕ
newest_of m = current m.settled m.flight

pub follows_same : (ws vs : List ℕ) (m n : Meaning) → vs ≡ ws → n ≡ m → Follows ws m → Follows vs n
follows_same ws vs m n e q f = (e ∙ (f.0 ∙ sym (ap newest_of q)), ap (λ x. guarded x.flight) q ∙ f.1)

-- admit

cond_follows : (b : Bool) (ws : List ℕ) (m n : Meaning) → Follows ws m → (b ≡ false → Follows ws n) → Follows ws (cond b m n)
cond_follows true ws m n f k = f
cond_follows false ws m n f k = k refl

cond_false : (b c : Bool) → cond b c true ≡ false → (b ≡ true) × (c ≡ false)
cond_false true c h = (refl, h)
cond_false false c h = grind arith

clear_new : (m : Meaning) (d : Option ℕ) → awaited_destination m d ≡ false → clear (first_status d) d [] ≡ true
clear_new m None h = refl
clear_new m (Some r) h = and_from (ltb r 16) true (cond_false (ltb r 16) (held_up (youngest r m.flight)) h).0 refl

follows_push : (ws : List ℕ) (m : Meaning) (t c : ℕ) (d : Option ℕ) → Follows ws m → awaited_destination m d ≡ false → Follows ws (with_flight m (m.flight ++ (new_entry t c d ∷ [])))
follows_push ws m t c d f h = (
  f.0 ∙ sym (current_new t c d m.flight m.settled),
  guarded_push (new_entry t c d) m.flight (λ r q. (cond_false (ltb r 16) (held_up (youngest r m.flight)) (sym (ap (awaited_destination m) q) ∙ h)).1) (clear_new m d h) f.1,
)

pub follows_admit : (ws : List ℕ) (m n : Meaning) (c : ℕ) (d : Option ℕ) (t : ℕ) → n ≡ admit_leaves m c d t → Follows ws m → Follows ws n
follows_admit ws m n c d t e f =
    follows_same ws ws (admit_leaves m c d t) n refl e
    (cond_follows (awaited_destination m d) ws m (cond (full m) m (with_flight m (m.flight ++ (new_entry t c d ∷ [])))) f
    (λ h. cond_follows (full m) ws m (with_flight m (m.flight ++ (new_entry t c d ∷ []))) f (λ _. follows_push ws m t c d f h)))

-- deliver

abbrev turned : Slot → Status → Slot
turned s k = record { counter = s.counter; destination = s.destination; status = k }

-- a result goes through the entries younger than its own
behind_it : (d : Option ℕ) (r : Result ℕ Fault) (es : List Entry) (ws : List ℕ) → clear Pending d es ≡ true → current (put_done ws d (ended r)) es ≡ put_done (current ws es) d (ended r)
behind_it None r es ws h = grind arith
behind_it (Some d) (Ok w) es ws h = current_set d w es ws (clear_parts d es h).1
behind_it (Some d) (Err k) es ws h = refl

turn : (i t : ℕ) (r : Result ℕ Fault) (ss : List Slot) (ws : List ℕ) → i < length ss → (get_or ss i d0).status ≡ Pending → guarded (flight_of t ss) ≡ true → put_done (current ws (flight_of t ss)) (get_or ss i d0).destination (ended r) ≡ current ws (flight_of t (set ss i (turned (get_or ss i d0) (ended r))))
turn i t r [] ws l p g = absurd (omega arith)
turn zero t r (s ∷ ss) ws l p g =
    let c = (and_parts (clear s.status s.destination (flight_of ((t + 1) % 256) ss)) (guarded (flight_of ((t + 1) % 256) ss)) g).0 in
    ap (λ k. put_done (current (put_done ws s.destination k) (flight_of ((t + 1) % 256) ss)) s.destination (ended r)) p
    ∙ sym (behind_it s.destination r (flight_of ((t + 1) % 256) ss) ws (sym (ap (λ k. clear k s.destination (flight_of ((t + 1) % 256) ss)) p) ∙ c))
turn (suc i) t r (s ∷ ss) ws l p g =
    turn i ((t + 1) % 256) r ss (put_done ws s.destination s.status) (omega arith) p
    (and_parts (clear s.status s.destination (flight_of ((t + 1) % 256) ss)) (guarded (flight_of ((t + 1) % 256) ss)) g).1

module _ (b : Buffer) where
  delivered_word : (u : ℕ) (r : Result ℕ Fault) (o : Option ℕ) → u < 256 → o ≡ taker_at b u → guarded (mean b).flight ≡ true → written (newest_of (mean b)) (option_and_then (slice_get b.flight.entries.items) o) r ≡ newest_of (deliver_leaves (mean b) u r)
  delivered_word u r None l h g = ap newest_of (delivers_none b u r l h).1
  delivered_word u r (Some i) l h g =
      let f = taken b u i l h in
      let d = hit b.flight.first u i (ended r) b.flight.entries.items b.flight.tagged f.0 (omega (arith, b.flight.most, b.flight.room)) f.1 f.2 in
      ap (λ s. written (newest_of (mean b)) s r) (slice_get-get_or b.flight.entries.items i d0 f.0) ∙ (turn i b.flight.first r b.flight.entries.items b.settled f.0 f.2 g ∙ ap (current b.settled) (sym d.1))

  pub follows_deliver : (ws vs : List ℕ) (n : Meaning) (u : ℕ) (r : Result ℕ Fault) → u < 256 → vs ≡ written ws (taken_slot b u) r → n ≡ deliver_leaves (mean b) u r → Follows ws (mean b) → Follows vs n
  follows_deliver ws vs n u r l e q f =
      follows_same (written ws (taken_slot b u) r) vs (deliver_leaves (mean b) u r) n e q (
        ap (λ x. written x (taken_slot b u) r) f.0 ∙ delivered_word u r (taker_at b u) l refl f.1,
        guarded_delivered u r (mean b).flight f.1,
      )

-- look

pub follows_look : (ws : List ℕ) (m : Meaning) (r : ℕ) → length m.settled ≡ 16 → false ≡ awaited m r → Follows ws m → Some (get_or ws r 0) ≡ look_answer Early m r
follows_look ws m r l h f =
    let p = cond_false (ltb r 16) (held_up (youngest r m.flight)) (sym h) in
    let k : r < length m.settled = omega (arith, ltb-true r 16 p.0) in
    ap (λ vs. Some (get_or vs r 0)) f.0
    ∙ (ap Some (current_read r m.flight m.settled k p.1)
    ∙ ap (λ b. cond b None (Some (word_in (youngest r m.flight) (get_or m.settled r 0)))) h)
