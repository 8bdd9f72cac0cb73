-- What each step does to the meaning of a reorder buffer.
use Rattle.std.specs.Prelude.{◌≡◌, ℕ, zero, suc, ◌+◌, ◌%◌, ◌<◌, Bool, true, false, cond, ◌&&◌, List, [], ◌∷◌, ◌++◌, length, get_or, Some, None, Ok, Err, Option, Result, ◌==◌, nat_lt, slice_get, slice_set, option_and_then, refl}
use Rattle.std.proofs.Common.{ap, sym, ◌∙◌, ⊎_elim, arith}
use Rattle.std.proofs.lemmas.Bool.{ne_eqb, cases_Bool}
use Rattle.std.proofs.lemmas.Option.{cond_some, slice_get-get_or}
use Rattle.isa.specs.declared.fault.Fault.{Fault}
use Rattle.recovery.specs.declared.Status.{Status}
use Rattle.recovery.specs.declared.Status.TheVariants.{Pending, Done, Faulted}
use Rattle.recovery.specs.declared.AdmitError.{AdmitError}
use Rattle.recovery.specs.declared.AdmitError.TheVariants.{Full}
use Rattle.recovery.specs.declared.slots.Slot.{Slot}
use Rattle.recovery.specs.Meaning.{Meaning, is_empty, place_answer, awaited_destination, Admits, with_flight, waiting, deliver_leaves, ended, is_pending}
use Rattle.recovery.specs.Search.{last_of}
use Rattle.recovery.specs.Slots.{slot_names, flight_of, in_slots}
use Rattle.recovery.proofs.Flights.{d0, flight_length, slot_status, found, idle, hit}
use Rattle.recovery.proofs.Admitting.{cond_map, new_slot, admits as one_more}
use Rattle.recovery.specs.Flight.{is_full, next_tag, entry_at}
use Rattle.reorder.specs.declared.buffer.Buffer.{Buffer}
use Rattle.reorder.specs.Mean.{mean, newest_status, place_of, waits, taker_at, taken_slot}

no_flight : (t : ℕ) (ss : List Slot) → is_empty (flight_of t ss) ≡ (length ss == 0)
no_flight t [] = refl
no_flight t (s ∷ ss) = sym (ne_eqb (suc (length ss)) 0 (λ e. omega arith))

waits_at : (ss : List Slot) (i : ℕ) → i < length ss → waits (slice_get ss i) ≡ is_pending (get_or ss i d0).status
waits_at [] i l = absurd (omega arith)
waits_at (s ∷ ss) zero l = refl
waits_at (s ∷ ss) (suc i) l = waits_at ss i (omega arith)

within_waits : (ss : List Slot) (i : ℕ) → waits (slice_get ss i) ≡ true → i < length ss
within_waits [] i h = grind arith
within_waits (s ∷ ss) zero h = omega arith
within_waits (s ∷ ss) (suc i) h = let l = within_waits ss i h in omega arith

pending_is : (s : Status) → is_pending s ≡ true → s ≡ Pending
pending_is Pending h = refl
pending_is (Done w) h = grind arith
pending_is (Faulted f) h = grind arith

none_cond : (b : Bool) (i : ℕ) → None ≡ cond b (Some i) None → b ≡ false
none_cond true i h = grind arith
none_cond false i h = refl

some_is : (x y : Slot) → Some x ≡ Some y → x ≡ y
some_is x y h = cc

module _ (b : Buffer) where
  pub mean_length : length (mean b).flight ≡ length b.flight.entries.items
  mean_length = flight_length b.flight.first b.flight.entries.items

  pub place_by : (r : ℕ) → place_answer (mean b) r ≡ (length b.flight.entries.items == 0) && nat_lt r 16
  place_by r = ap (λ e. e && nat_lt r 16) (no_flight b.flight.first b.flight.entries.items)

  -- the search over the slots tells the newest status

  pub newest_some : (r : ℕ) (s : Slot) → Some s ≡ last_of (λ x. slot_names x r) b.flight.entries.items → Some s.status ≡ newest_status b r
  newest_some r s h = ap slot_status h ∙ sym (found b.flight.first r b.flight.entries.items)

  pub newest_none : (r : ℕ) → None ≡ last_of (λ x. slot_names x r) b.flight.entries.items → None ≡ newest_status b r
  newest_none r h = ap slot_status h ∙ sym (found b.flight.first r b.flight.entries.items)

  -- an admission whose destination is not awaited goes by whether the flight is full
  pub admits : (c : ℕ) (d : Option ℕ) (x : Slot) (a : Result ℕ AdmitError) (n : Meaning) → false ≡ awaited_destination (mean b) d → x ≡ new_slot c d → a ≡ cond (is_full b.flight.capacity b.flight.entries.items) (Err Full) (Ok (next_tag b.flight.first b.flight.entries.items)) → n ≡ in_slots b.settled b.flight.capacity b.flight.first (cond (is_full b.flight.capacity b.flight.entries.items) b.flight.entries.items (b.flight.entries.items ++ (x ∷ []))) → Admits (mean b) c d a n
  admits c d x a n w e f g =
      one_more b.settled b.flight.capacity b.flight.first b.flight.entries.items b.flight.tagged b.flight.most b.flight.room c d a n w f
      (g
      ∙ (ap (λ y. in_slots b.settled b.flight.capacity b.flight.first (cond (is_full b.flight.capacity b.flight.entries.items) b.flight.entries.items (b.flight.entries.items ++ (y ∷ [])))) e
      ∙ cond_map (in_slots b.settled b.flight.capacity b.flight.first) (is_full b.flight.capacity b.flight.entries.items) b.flight.entries.items (b.flight.entries.items ++ (new_slot c d ∷ []))))

  -- the place that is found for a tag is that of its pending entry
  pub taken : (u i : ℕ) → u < 256 → Some i ≡ taker_at b u → (i < length b.flight.entries.items) × ((b.flight.first + i) % 256 ≡ u) × ((get_or b.flight.entries.items i d0).status ≡ Pending)
  taken u i l h =
      let f = cond_some (waits (slice_get b.flight.entries.items (place_of b u))) (place_of b u) i (sym h) in
      let lt = within_waits b.flight.entries.items (place_of b u) f.0 in
      let t : b.flight.first < 256 = b.flight.tagged in
      let e : place_of b u ≡ i = f.1 in
      let p = pending_is (get_or b.flight.entries.items (place_of b u) d0).status (sym (waits_at b.flight.entries.items (place_of b u) lt) ∙ f.0) in
      (omega arith, omega arith, ap (λ n. (get_or b.flight.entries.items n d0).status) (sym e) ∙ p)

  -- a delivery for which no place is found turns nothing
  pub delivers_none : (u : ℕ) (r : Result ℕ Fault) → u < 256 → None ≡ taker_at b u → (false ≡ waiting u (mean b).flight) × (mean b ≡ deliver_leaves (mean b) u r)
  delivers_none u r l h =
      let t : b.flight.first < 256 = b.flight.tagged in
      let no = none_cond (waits (slice_get b.flight.entries.items (place_of b u))) (place_of b u) h in
      let k = idle b.flight.first u (ended r) b.flight.entries.items t (λ j q e.
      let at : j ≡ place_of b u = omega (arith, b.flight.most, b.flight.room) in
      sym (waits_at b.flight.entries.items j q) ∙ (ap (λ n. waits (slice_get b.flight.entries.items n)) at ∙ no)) in
      (sym k.0, ap (with_flight (mean b)) (sym k.1))

  -- the slot that is taken stands at its tag's place, and is pending
  taken_at : (u : ℕ) (s : Slot) → Some s ≡ taken_slot b u → (Some (place_of b u) ≡ taker_at b u) × (s ≡ get_or b.flight.entries.items (place_of b u) d0)
  taken_at u s h =
      ⊎_elim
      (λ t.
      let l = within_waits b.flight.entries.items (place_of b u) t in
      let g = slice_get-get_or b.flight.entries.items (place_of b u) d0 l in
      let q : Some s ≡ Some (get_or b.flight.entries.items (place_of b u) d0) = h ∙ (ap (λ w. option_and_then (slice_get b.flight.entries.items) (cond w (Some (place_of b u)) None)) t ∙ g) in
      (sym (ap (λ w. cond w (Some (place_of b u)) None) t), some_is s (get_or b.flight.entries.items (place_of b u) d0) q))
      (λ f. let q : Some s ≡ None = h ∙ ap (λ w. option_and_then (slice_get b.flight.entries.items) (cond w (Some (place_of b u)) None)) f in grind arith)
      (cases_Bool (waits (slice_get b.flight.entries.items (place_of b u))))

  -- a delivery turns the slot that is taken
  pub delivers : (u : ℕ) (s : Slot) (r : Result ℕ Fault) (k : Status) (n : Meaning) → u < 256 → Some s ≡ taken_slot b u → k ≡ ended r → n ≡ in_slots b.settled b.flight.capacity b.flight.first (slice_set b.flight.entries.items (place_of b u) (record { counter = s.counter; destination = s.destination; status = k })) → (true ≡ waiting u (mean b).flight) × (n ≡ deliver_leaves (mean b) u r)
  delivers u s r k n l h e q =
      let a = taken_at u s h in
      let f = taken u (place_of b u) l a.0 in
      let d = hit b.flight.first u (place_of b u) (ended r) b.flight.entries.items b.flight.tagged f.0 (omega (arith, b.flight.most, b.flight.room)) f.1 f.2 in (
        sym d.0,
        q
            ∙ (ap (λ x. in_slots b.settled b.flight.capacity b.flight.first (slice_set b.flight.entries.items (place_of b u) (record { counter = s.counter; destination = s.destination; status = x }))) e
            ∙ (ap (λ x. in_slots b.settled b.flight.capacity b.flight.first (slice_set b.flight.entries.items (place_of b u) (record { counter = x.counter; destination = x.destination; status = ended r }))) a.1
            ∙ ap (with_flight (mean b)) (sym d.1))),
      )

  -- where none is taken, a delivery turns nothing
  pub untaken : (u : ℕ) (r : Result ℕ Fault) → u < 256 → None ≡ taken_slot b u → (false ≡ waiting u (mean b).flight) × (mean b ≡ deliver_leaves (mean b) u r)
  untaken u r l h =
      ⊎_elim
      (λ t.
      let q : None ≡ Some (get_or b.flight.entries.items (place_of b u) d0) = h ∙ (ap (λ w. option_and_then (slice_get b.flight.entries.items) (cond w (Some (place_of b u)) None)) t ∙ slice_get-get_or b.flight.entries.items (place_of b u) d0 (within_waits b.flight.entries.items (place_of b u) t)) in
      grind arith)
      (λ f. delivers_none u r l (sym (ap (λ w. cond w (Some (place_of b u)) None) f)))
      (cases_Bool (waits (slice_get b.flight.entries.items (place_of b u))))

  -- the pending slot of a tag is its entry, where that is pending
  pub taken_by : (u : ℕ) → taken_slot b u ≡ cond (waits (entry_at b.flight.first b.flight.entries.items u)) (entry_at b.flight.first b.flight.entries.items u) None
  taken_by u =
      ⊎_elim
      (λ t. ap (λ w. option_and_then (slice_get b.flight.entries.items) (cond w (Some (place_of b u)) None)) t ∙ sym (ap (λ w. cond w (slice_get b.flight.entries.items (place_of b u)) None) t))
      (λ f. ap (λ w. option_and_then (slice_get b.flight.entries.items) (cond w (Some (place_of b u)) None)) f ∙ sym (ap (λ w. cond w (slice_get b.flight.entries.items (place_of b u)) None) f))
      (cases_Bool (waits (slice_get b.flight.entries.items (place_of b u))))
