-- What each step does to the meaning of the history buffer.
use Rattle.std.specs.Prelude.{◌≡◌, ℕ, zero, suc, ◌+◌, ◌%◌, ◌<◌, ◌≤◌, Bool, true, false, cond, ◌&&◌, List, [], ◌∷◌, ◌++◌, length, get_or, drop, nat_le, Some, None, Ok, Err, Option, Result, ◌==◌, ◌≢◌, nat_lt, slice_get, slice_index, slice_index_or, slice_set, refl}
use Rattle.std.proofs.Common.{ap, sym, ◌∙◌, ⊎_elim, arith}
use Rattle.std.proofs.lemmas.Bool.{and_parts, ne_eqb, cases_Bool}
use Rattle.isa.specs.declared.fault.Fault.{Fault}
use Rattle.recovery.specs.declared.Status.TheVariants.{Pending, Done, Faulted}
use Rattle.recovery.specs.declared.Timing.TheVariants.{Early}
use Rattle.recovery.specs.declared.AdmitError.{AdmitError}
use Rattle.recovery.specs.declared.AdmitError.TheVariants.{Full}
use Rattle.recovery.specs.Meaning.{Meaning, is_empty, put, place_answer, settle, retire_leaves, awaited, awaited_destination, held_up, youngest, word_in, look_answer, Admits, first_status, with_flight, deliver_answer, deliver_leaves, ended, is_pending}
use Rattle.recovery.specs.declared.slots.Slot.{Slot}
use Rattle.recovery.specs.Slots.{flight_of, in_slots}
use Rattle.recovery.proofs.Flights.{d0, flight_length, idle, hit}
use Rattle.recovery.proofs.Admitting.{cond_map, new_slot, admits as admits_slot}
use Rattle.recovery.specs.Flight.{is_full, next_tag, distance, entry_at}
use Rattle.history.specs.declared.buffer.HistoryRecord.{HistoryRecord}
use Rattle.history.specs.declared.buffer.Progress.{Progress}
use Rattle.history.specs.declared.buffer.Progress.TheVariants.{Waiting, Finished, Failed}
use Rattle.history.specs.declared.buffer.HistoryBuffer.{HistoryBuffer}
use Rattle.history.specs.Unwind.{unwind, newest_progress, word_at, status_of, slot_of, slots_of, clear, guarded, new_record, first_progress, progress_by, file_after}
use Rattle.history.specs.Buffer.{meaning_by, meaning_of}
use Rattle.history.specs.Unwinding.{unused, length_put, slots_length, unwind_push, slots_push, undo_new, put_back, unfinished, held_by, word_by}
use Rattle.history.specs.Guards.{moved_to, guard_at, behind_it, changed, guard_set, guard_push, Idle}

no_flight : (t : ℕ) (xs : List HistoryRecord) (ws : List ℕ) → is_empty (flight_of t (slots_of xs ws)) ≡ (length xs == 0)
no_flight t [] ws = refl
no_flight t (x ∷ xs) ws = sym (ne_eqb (suc (length xs)) 0 (λ e. omega arith))

-- the slot of the record at j
slot_at : (j : ℕ) (xs : List HistoryRecord) (ws : List ℕ) → j < length xs → slice_index_or (slots_of xs ws) j d0 ≡ slot_of (slice_index_or xs j unused) (unwind (drop (suc j) xs) ws)
slot_at j [] ws l = absurd (omega arith)
slot_at zero (x ∷ xs) ws l = refl
slot_at (suc j) (x ∷ xs) ws l = slot_at j xs ws (omega arith)

new_status : (ws : List ℕ) (d : Option ℕ) → status_of (first_progress d) (word_at ws d) ≡ first_status d
new_status ws None = refl
new_status ws (Some r) = refl

not_held : (r : ℕ) (b : Bool) → false ≡ cond (nat_lt r 16) b true → (nat_lt r 16 ≡ true) × (b ≡ false)
not_held r b h =
    ⊎_elim
    (λ t. (t, sym (h ∙ ap (λ c. cond c b true) t)))
    (λ f. let q : false ≡ true = h ∙ ap (λ c. cond c b true) f in grind arith)
    (cases_Bool (nat_lt r 16))

not_pending : (p : Progress) (w : ℕ) → p ≢ Waiting → is_pending (status_of p w) ≡ false
not_pending Waiting w n = absurd (n refl)
not_pending Finished w n = refl
not_pending (Failed f) w n = refl

not_waiting : (o : Result ℕ Fault) (e : Option ℕ) (zs : List HistoryRecord) → clear (progress_by o) e zs ≡ true
not_waiting (Ok w) e zs = refl
not_waiting (Err f) e zs = refl

pub length_after : (ws : List ℕ) (d : Option ℕ) (o : Result ℕ Fault) → length (file_after ws d o) ≡ length ws
length_after ws d (Ok w) = length_put ws d w
length_after ws d (Err f) = refl

-- the oldest record, once it is finished, goes: its result is in the file, and only its old word is lost
pub retires : (c t : ℕ) (x : HistoryRecord) (xs ys : List HistoryRecord) (ws : List ℕ) → xs ≡ x ∷ drop 1 xs → x.progress ≡ Finished → ys ≡ drop 1 xs → meaning_by c ((t + 1) % 256) ys ws ≡ retire_leaves (meaning_by c t xs ws)
retires c t x [] ys ws g e q = grind arith
retires c t x (y ∷ xs) ys ws g e q =
    let p : y.progress ≡ Finished = cc in
    ap (λ zs. meaning_by c ((t + 1) % 256) zs ws) q
    ∙ sym (ap (λ k. settle (meaning_by c t (y ∷ xs) ws) (flight_of ((t + 1) % 256) (slots_of xs ws)) y.destination (status_of k (word_at (unwind xs ws) y.destination))) p
    ∙ ap (λ vs. in_slots vs c ((t + 1) % 256) (slots_of xs ws)) (put_back (unwind xs ws) y.destination y.old))

pub guarded_on : (xs : List HistoryRecord) → guarded xs ≡ true → guarded (drop 1 xs) ≡ true
guarded_on [] g = refl
guarded_on (x ∷ xs) g = (and_parts (clear x.progress x.destination xs) (guarded xs) g).1

guarded_cond : (b : Bool) (xs ys : List HistoryRecord) → guarded xs ≡ true → guarded ys ≡ true → guarded (cond b xs ys) ≡ true
guarded_cond true xs ys g h = g
guarded_cond false xs ys g h = h

-- an element that is found is within, and any read finds it
got : (xs : List HistoryRecord) (i : ℕ) (x : HistoryRecord) → Some x ≡ slice_get xs i → (i < length xs) × ((d : HistoryRecord) → get_or xs i d ≡ x)
got [] i x h = grind arith
got (y ∷ xs) zero x h = (omega arith, λ d. cc)
got (y ∷ xs) (suc i) x h = let k = got xs i x h in (omega arith, k.1)

none_past : (xs : List HistoryRecord) (i : ℕ) → None ≡ slice_get xs i → length xs ≤ i
none_past [] i h = omega arith
none_past (y ∷ xs) zero h = grind arith
none_past (y ∷ xs) (suc i) h = let k = none_past xs i h in omega arith

-- where the record of a tag is, if it is in use
abbrev pub place_of : HistoryBuffer → ℕ → ℕ
place_of h u = distance h.flight.first u

module _ (h : HistoryBuffer) where
  slots_length_of : length (slots_of h.flight.entries.items h.file) ≡ length h.flight.entries.items
  slots_length_of = slots_length h.flight.entries.items h.file

  pub flown : length (meaning_of h).flight ≡ length h.flight.entries.items
  flown = flight_length h.flight.first (slots_of h.flight.entries.items h.file) ∙ slots_length_of

  pub place_by : (r : ℕ) → place_answer (meaning_of h) r ≡ (length h.flight.entries.items == 0) && nat_lt r 16
  place_by r = ap (λ e. e && nat_lt r 16) (no_flight h.flight.first h.flight.entries.items h.file)

  -- whether a register is awaited, by its youngest record
  pub awaited_by : (r : ℕ) → awaited (meaning_of h) r ≡ cond (nat_lt r 16) (unfinished (newest_progress r h.flight.entries.items)) true
  awaited_by r = ap (λ b. cond (nat_lt r 16) b true) (held_by h.flight.first r h.flight.entries.items h.file)

  -- one that is not awaited is read from the file
  pub looks : (r : ℕ) → false ≡ awaited (meaning_of h) r → Some (slice_index h.file r) ≡ look_answer Early (meaning_of h) r
  looks r k =
      let p = not_held r (held_up (youngest r (meaning_of h).flight)) k in
      let u : unfinished (newest_progress r h.flight.entries.items) ≡ false = sym (held_by h.flight.first r h.flight.entries.items h.file) ∙ p.1 in
      sym (ap Some (word_by h.flight.first r h.flight.entries.items h.file u))
      ∙ ap (λ b. cond b None (Some (word_in (youngest r (meaning_of h).flight) (slice_index (meaning_of h).settled r)))) k

  -- Admitting

  -- the meaning with one record more
  one_more : (c : ℕ) (d : Option ℕ) → meaning_by h.flight.capacity h.flight.first (h.flight.entries.items ++ (new_record h.file c d ∷ [])) h.file ≡ in_slots (unwind h.flight.entries.items h.file) h.flight.capacity h.flight.first (slots_of h.flight.entries.items h.file ++ (new_slot c d ∷ []))
  one_more c d =
      ap (λ ws. in_slots ws h.flight.capacity h.flight.first (slots_of (h.flight.entries.items ++ (new_record h.file c d ∷ [])) h.file)) (unwind_push (new_record h.file c d) h.flight.entries.items h.file ∙ ap (unwind h.flight.entries.items) (undo_new h.file c d))
      ∙ (ap (in_slots (meaning_of h).settled h.flight.capacity h.flight.first) (slots_push (new_record h.file c d) h.flight.entries.items h.file (undo_new h.file c d))
      ∙ ap (λ s. in_slots (meaning_of h).settled h.flight.capacity h.flight.first (slots_of h.flight.entries.items h.file ++ (record { counter = c; destination = d; status = s } ∷ []))) (new_status h.file d))

  -- an admission to a destination that is not awaited goes by whether the flight is full
  pub admits : (c : ℕ) (d : Option ℕ) (a : Result ℕ AdmitError) (n : Meaning) → false ≡ awaited_destination (meaning_of h) d → a ≡ cond (is_full h.flight.capacity h.flight.entries.items) (Err Full) (Ok (next_tag h.flight.first h.flight.entries.items)) → n ≡ meaning_by h.flight.capacity h.flight.first (cond (is_full h.flight.capacity h.flight.entries.items) h.flight.entries.items (h.flight.entries.items ++ (new_record h.file c d ∷ []))) h.file → Admits (meaning_of h) c d a n
  admits c d a n w e g =
      admits_slot (unwind h.flight.entries.items h.file) h.flight.capacity h.flight.first (slots_of h.flight.entries.items h.file) h.flight.tagged h.flight.most (omega (arith, slots_length_of, h.flight.room)) c d a n w
      (e ∙ ap (λ m. cond (nat_le h.flight.capacity m) (Err Full) (Ok ((h.flight.first + m) % 256))) (sym slots_length_of))
      (g
      ∙ (cond_map (λ xs. meaning_by h.flight.capacity h.flight.first xs h.file) (is_full h.flight.capacity h.flight.entries.items) h.flight.entries.items (h.flight.entries.items ++ (new_record h.file c d ∷ []))
      ∙ (ap (cond (is_full h.flight.capacity h.flight.entries.items) (meaning_of h)) (one_more c d)
      ∙ ap (λ m. cond (nat_le h.flight.capacity m) (meaning_of h) (in_slots (unwind h.flight.entries.items h.file) h.flight.capacity h.flight.first (slots_of h.flight.entries.items h.file ++ (new_slot c d ∷ [])))) (sym slots_length_of))))

  -- no record waits for a destination that is not awaited
  idle_destination : (d : Option ℕ) → false ≡ awaited_destination (meaning_of h) d → Idle d h.flight.entries.items
  idle_destination None k r q w = grind arith
  idle_destination (Some e) k r q w =
      let p = not_held e (unfinished (newest_progress e h.flight.entries.items)) (k ∙ awaited_by e) in
      let er : e ≡ r = cc in
      let t : unfinished (newest_progress e h.flight.entries.items) ≡ true = ap (λ n. unfinished (newest_progress n h.flight.entries.items)) er ∙ ap unfinished w in
      let q2 : false ≡ true = sym p.1 ∙ t in
      grind arith

  clear_new : (d : Option ℕ) → false ≡ awaited_destination (meaning_of h) d → clear (first_progress d) d [] ≡ true
  clear_new None k = refl
  clear_new (Some r) k = ap (λ b. b && true) (not_held r (held_up (youngest r (meaning_of h).flight)) k).0

  pub guarded_more : (c : ℕ) (d : Option ℕ) (xs : List HistoryRecord) → false ≡ awaited_destination (meaning_of h) d → xs ≡ cond (is_full h.flight.capacity h.flight.entries.items) h.flight.entries.items (h.flight.entries.items ++ (new_record h.file c d ∷ [])) → guarded xs ≡ true
  guarded_more c d xs k e =
      ap guarded e
      ∙ guarded_cond (is_full h.flight.capacity h.flight.entries.items) h.flight.entries.items (h.flight.entries.items ++ (new_record h.file c d ∷ [])) h.undisturbed
      (guard_push (new_record h.file c d) h.flight.entries.items (idle_destination d k) (clear_new d k) h.undisturbed)

  -- Delivering, to the record at i of the tag u

  -- the record at i
  abbrev at_place : ℕ → HistoryRecord
  at_place i = slice_index_or h.flight.entries.items i unused

  -- a delivery to a tag whose record does not wait turns nothing
  turns_none : (u : ℕ) (o : Result ℕ Fault) → u < 256 → (place_of h u < length h.flight.entries.items → (get_or h.flight.entries.items (place_of h u) unused).progress ≢ Waiting) → (false ≡ deliver_answer (meaning_of h) u) × (meaning_of h ≡ deliver_leaves (meaning_of h) u o)
  turns_none u o l k =
      let t : h.flight.first < 256 = h.flight.tagged in
      let r = idle h.flight.first u (ended o) (slots_of h.flight.entries.items h.file) t (λ j q e.
      let same : j ≡ place_of h u = omega (arith, slots_length_of, h.flight.most, h.flight.room) in
      let lt : j < length h.flight.entries.items = omega (arith, slots_length_of) in
      ap (λ s. is_pending s.status) (slot_at j h.flight.entries.items h.file lt)
      ∙ not_pending (at_place j).progress (word_at (unwind (drop (suc j) h.flight.entries.items) h.file) (at_place j).destination) (λ w. k (omega arith) (ap (λ n. (at_place n).progress) (sym same) ∙ w))) in
      (sym r.0, ap (with_flight (meaning_of h)) (sym r.1))

  pub delivers_past : (u : ℕ) (o : Result ℕ Fault) → u < 256 → None ≡ entry_at h.flight.first h.flight.entries.items u → (false ≡ deliver_answer (meaning_of h) u) × (meaning_of h ≡ deliver_leaves (meaning_of h) u o)
  delivers_past u o l g = let k = none_past h.flight.entries.items (place_of h u) g in turns_none u o l (λ q w. omega arith)

  pub delivers_again : (u : ℕ) (o : Result ℕ Fault) (x : HistoryRecord) → u < 256 → Some x ≡ entry_at h.flight.first h.flight.entries.items u → x.progress ≢ Waiting → (false ≡ deliver_answer (meaning_of h) u) × (meaning_of h ≡ deliver_leaves (meaning_of h) u o)
  delivers_again u o x l e n = turns_none u o l (λ q w. n (sym (ap (λ y. y.progress) ((got h.flight.entries.items (place_of h u) x e).1 unused)) ∙ w))

  -- the records once the one at i has moved on
  abbrev on : ℕ → Progress → List HistoryRecord
  on i p = slice_set h.flight.entries.items i (moved_to (at_place i) p)

  -- the file once the result of the record at i has come
  abbrev filed : ℕ → Result ℕ Fault → List ℕ
  filed i o = file_after h.file (at_place i).destination o

  -- the slots once the result of the record at i has come
  abbrev slots_on : ℕ → Result ℕ Fault → HistoryRecord → List Slot
  slots_on i o x = slice_set (slots_of h.flight.entries.items h.file) i (record { counter = x.counter; destination = x.destination; status = ended o })

  -- a result leaves the settled words, and turns its own slot alone
  moved : (i : ℕ) (o : Result ℕ Fault) → i < length h.flight.entries.items → (at_place i).progress ≡ Waiting → (unwind (on i (progress_by o)) (filed i o) ≡ (meaning_of h).settled) × (slots_of (on i (progress_by o)) (filed i o) ≡ slots_on i o (at_place i))
  moved i (Ok w) l p =
      let g = guard_at i h.flight.entries.items l h.undisturbed in
      let b = behind_it (at_place i).destination (at_place i).old w (drop (suc i) h.flight.entries.items) h.file h.sixteen (sym (ap (λ s. clear s (at_place i).destination (drop (suc i) h.flight.entries.items)) p) ∙ g) in
      changed i Finished (Done w) h.file (put h.file (at_place i).destination w) h.flight.entries.items l b.0 b.1 (ap Done b.2)
  moved i (Err f) l p = changed i (Failed f) (Faulted f) h.file h.file h.flight.entries.items l refl refl refl

  turned : (i : ℕ) (o : Result ℕ Fault) → i < length h.flight.entries.items → (at_place i).progress ≡ Waiting → meaning_by h.flight.capacity h.flight.first (on i (progress_by o)) (filed i o) ≡ with_flight (meaning_of h) (flight_of h.flight.first (slots_on i o (at_place i)))
  turned i o l p =
      let m = moved i o l p in
      ap (λ ws. record { settled = ws; capacity = h.flight.capacity; flight = flight_of h.flight.first (slots_of (on i (progress_by o)) (filed i o)) }) m.0
      ∙ ap (λ ss. with_flight (meaning_of h) (flight_of h.flight.first ss)) m.1

  pub guarded_then : (i : ℕ) (o : Result ℕ Fault) (x : HistoryRecord) (p : Progress) → Some x ≡ slice_get h.flight.entries.items i → p ≡ progress_by o → guarded (slice_set h.flight.entries.items i (moved_to x p)) ≡ true
  guarded_then i o x p e q =
      ap (λ y. guarded (slice_set h.flight.entries.items i (moved_to y p))) (sym ((got h.flight.entries.items i x e).1 unused))
      ∙ (ap (λ k. guarded (on i k)) q
      ∙ guard_set i (progress_by o) h.flight.entries.items (not_waiting o) h.undisturbed)

  pub delivers : (u : ℕ) (o : Result ℕ Fault) (x : HistoryRecord) (p : Progress) (ws : List ℕ) (n : Meaning) → u < 256 → Some x ≡ entry_at h.flight.first h.flight.entries.items u → x.progress ≡ Waiting → p ≡ progress_by o → ws ≡ file_after h.file x.destination o → n ≡ meaning_by h.flight.capacity h.flight.first (slice_set h.flight.entries.items (place_of h u) (moved_to x p)) ws → (true ≡ deliver_answer (meaning_of h) u) × (n ≡ deliver_leaves (meaning_of h) u o)
  delivers u o x p ws n l e w ep ew q =
      let i = place_of h u in
      let t : h.flight.first < 256 = h.flight.tagged in
      let f = got h.flight.entries.items i x e in
      let lt : i < length h.flight.entries.items = f.0 in
      let g : x ≡ at_place i = sym (f.1 unused) in
      let wg : (at_place i).progress ≡ Waiting = sym (ap (λ y. y.progress) g) ∙ w in
      let sa = slot_at i h.flight.entries.items h.file lt in
      let sp : (get_or (slots_of h.flight.entries.items h.file) i d0).status ≡ Pending = ap (λ y. y.status) sa ∙ ap (λ k. status_of k (word_at (unwind (drop (suc i) h.flight.entries.items) h.file) (at_place i).destination)) wg in
      let k = hit h.flight.first u i (ended o) (slots_of h.flight.entries.items h.file) t (omega (arith, slots_length_of)) (omega (arith, slots_length_of, h.flight.most, h.flight.room)) (omega arith) sp in
      let sd = ap (λ y. with_flight (meaning_of h) (flight_of h.flight.first (slice_set (slots_of h.flight.entries.items h.file) i (record { counter = y.counter; destination = y.destination; status = ended o })))) (sym sa) in (
        sym k.0,
        q ∙ (ap (meaning_by h.flight.capacity h.flight.first (slice_set h.flight.entries.items i (moved_to x p))) ew
            ∙ (ap (λ v. meaning_by h.flight.capacity h.flight.first (slice_set h.flight.entries.items i (moved_to x v)) (file_after h.file x.destination o)) ep
            ∙ (ap (λ y. meaning_by h.flight.capacity h.flight.first (slice_set h.flight.entries.items i (moved_to y (progress_by o))) (file_after h.file y.destination o)) g
            ∙ (turned i o lt wg
            ∙ (sd ∙ ap (with_flight (meaning_of h)) (sym k.1)))))),
      )
