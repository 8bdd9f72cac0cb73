-- Unwinding, record by record, and the search over the records.
use Rattle.std.specs.Prelude.{◌≡◌, ℕ, suc, ◌+◌, ◌%◌, Bool, true, false, cond, ◌||◌, ◌≢◌, List, [], ◌∷◌, ◌++◌, length, Some, None, Option, ◌==◌, slice_index, slice_set, refl}
use Rattle.std.proofs.Common.{ap, sym, ◌∙◌, ⊎_elim, arith}
use Rattle.std.proofs.lemmas.Bool.{eqb-false, eqb-true, or_parts, cases_Bool}
use Rattle.std.proofs.lemmas.List.{length-set, set-set, set_comm, set-get_or, get_or-set_other}
use Rattle.recovery.specs.declared.Status.{Status}
use Rattle.recovery.specs.declared.Status.TheVariants.{Pending, Done, Faulted}
use Rattle.recovery.specs.Meaning.{Entry, is_register, put, youngest, held_up, unready, word_in, word_of}
use Rattle.recovery.specs.Search.{or_else, last_of}
use Rattle.recovery.specs.Slots.{entry_of, flight_of}
use Rattle.recovery.specs.Slots.{status_in}
use Rattle.recovery.proofs.Flights.{in_or}
use Rattle.history.specs.declared.buffer.HistoryRecord.{HistoryRecord}
use Rattle.history.specs.declared.buffer.Progress.{Progress}
use Rattle.history.specs.declared.buffer.Progress.TheVariants.{Waiting, Finished, Failed}
use Rattle.history.specs.Unwind.{record_names, undo, unwind, word_at, status_of, slot_of, slots_of, named, new_record, newest_progress}

-- what an array's read takes past its end
abbrev pub unused : HistoryRecord
unused = record { counter = 0; destination = None; old = 0; progress = Waiting }

pub length_put : (ws : List ℕ) (d : Option ℕ) (w : ℕ) → length (put ws d w) ≡ length ws
length_put ws None w = refl
length_put ws (Some d) w = length-set ws d w

pub length_unwind : (xs : List HistoryRecord) (ws : List ℕ) → length (unwind xs ws) ≡ length ws
length_unwind [] ws = refl
length_unwind (x ∷ xs) ws = length_put (unwind xs ws) x.destination x.old ∙ length_unwind xs ws

pub unwound : (xs : List HistoryRecord) (ws vs : List ℕ) → vs ≡ unwind xs ws → length ws ≡ 16 → length vs ≡ 16
unwound xs ws vs e h = ap length e ∙ (length_unwind xs ws ∙ h)

pub slots_length : (xs : List HistoryRecord) (ws : List ℕ) → length (slots_of xs ws) ≡ length xs
slots_length [] ws = refl
slots_length (x ∷ xs) ws = ap suc (slots_length xs ws)

put_other : (ws : List ℕ) (e : Option ℕ) (d v w : ℕ) → is_register e d ≡ false → put (slice_set ws d w) e v ≡ slice_set (put ws e v) d w
put_other ws None d v w h = refl
put_other ws (Some e) d v w h = let n : d ≢ e = λ q. eqb-false e d h (sym q) in set_comm ws d e w v n

word_other : (ws : List ℕ) (e : Option ℕ) (d w : ℕ) → is_register e d ≡ false → word_at (slice_set ws d w) e ≡ word_at ws e
word_other ws None d w h = refl
word_other ws (Some e) d w h = get_or-set_other ws d e w 0 (eqb-false e d h)

get_other : (ws : List ℕ) (e : Option ℕ) (d v : ℕ) → is_register e d ≡ false → slice_index (put ws e v) d ≡ slice_index ws d
get_other ws None d v h = refl
get_other ws (Some e) d v h = get_or-set_other ws e d v 0 (λ q. eqb-false e d h (sym q))

-- a write to a register that no record names goes through
pub unwind_set : (d w : ℕ) (xs : List HistoryRecord) (ws : List ℕ) → named d xs ≡ false → unwind xs (slice_set ws d w) ≡ slice_set (unwind xs ws) d w
unwind_set d w [] ws h = refl
unwind_set d w (x ∷ xs) ws h =
    let p = or_parts (is_register x.destination d) (named d xs) h in
    ap (undo x) (unwind_set d w xs ws p.1) ∙ put_other (unwind xs ws) x.destination d x.old w p.0

pub slots_set : (d w : ℕ) (xs : List HistoryRecord) (ws : List ℕ) → named d xs ≡ false → slots_of xs (slice_set ws d w) ≡ slots_of xs ws
slots_set d w [] ws h = refl
slots_set d w (x ∷ xs) ws h =
    let p = or_parts (is_register x.destination d) (named d xs) h in
    ap (λ s. s ∷ slots_of xs (slice_set ws d w))
    (ap (slot_of x) (unwind_set d w xs ws p.1) ∙ ap (λ v. record { counter = x.counter; destination = x.destination; status = status_of x.progress v }) (word_other (unwind xs ws) x.destination d w p.0))
    ∙ ap (λ ss. slot_of x (unwind xs ws) ∷ ss) (slots_set d w xs ws p.1)

pub unwind_get : (d : ℕ) (xs : List HistoryRecord) (ws : List ℕ) → named d xs ≡ false → slice_index (unwind xs ws) d ≡ slice_index ws d
unwind_get d [] ws h = refl
unwind_get d (x ∷ xs) ws h =
    let p = or_parts (is_register x.destination d) (named d xs) h in
    get_other (unwind xs ws) x.destination d x.old p.0 ∙ unwind_get d xs ws p.1

-- the record of a word that is put back at once
put_same : (ws : List ℕ) (d : Option ℕ) → put ws d (word_at ws d) ≡ ws
put_same ws None = refl
put_same ws (Some d) = set-get_or ws d 0

pub unwind_push : (x : HistoryRecord) (xs : List HistoryRecord) (ws : List ℕ) → unwind (xs ++ (x ∷ [])) ws ≡ unwind xs (undo x ws)
unwind_push x [] ws = refl
unwind_push x (y ∷ xs) ws = ap (undo y) (unwind_push x xs ws)

pub slots_push : (x : HistoryRecord) (xs : List HistoryRecord) (ws : List ℕ) → undo x ws ≡ ws → slots_of (xs ++ (x ∷ [])) ws ≡ slots_of xs ws ++ (slot_of x ws ∷ [])
slots_push x [] ws h = refl
slots_push x (y ∷ xs) ws h =
    ap (λ g. slot_of y g ∷ slots_of (xs ++ (x ∷ [])) ws) (unwind_push x xs ws ∙ ap (unwind xs) h)
    ∙ ap (λ ss. slot_of y (unwind xs ws) ∷ ss) (slots_push x xs ws h)

pub undo_new : (ws : List ℕ) (c : ℕ) (d : Option ℕ) → undo (new_record ws c d) ws ≡ ws
undo_new ws c d = put_same ws d

-- retiring a done record
pub put_back : (ws : List ℕ) (d : Option ℕ) (v : ℕ) → put (put ws d v) d (word_at ws d) ≡ ws
put_back ws None v = refl
put_back ws (Some d) v = set-set ws d v (slice_index ws d) ∙ set-get_or ws d 0

-- the search over the records
abbrev pub progress_in : Option HistoryRecord → Option Progress
progress_in None = None
progress_in (Some x) = Some x.progress

progress_or : (o : Option HistoryRecord) (b : Bool) (x : HistoryRecord) → progress_in (or_else o (cond b (Some x) None)) ≡ or_else (progress_in o) (cond b (Some x.progress) None)
progress_or (Some y) b x = refl
progress_or None true x = refl
progress_or None false x = refl

found_progress : (r : ℕ) (xs : List HistoryRecord) → progress_in (last_of (λ x. record_names x r) xs) ≡ newest_progress r xs
found_progress r [] = refl
found_progress r (x ∷ xs) =
    progress_or (last_of (λ y. record_names y r) xs) (record_names x r) x
    ∙ ap (λ o. or_else o (cond (record_names x r) (Some x.progress) None)) (found_progress r xs)

pub newest_some : (r : ℕ) (x : HistoryRecord) (xs : List HistoryRecord) → Some x ≡ last_of (λ y. record_names y r) xs → Some x.progress ≡ newest_progress r xs
newest_some r x xs h = ap progress_in h ∙ found_progress r xs

pub newest_none : (r : ℕ) (xs : List HistoryRecord) → None ≡ last_of (λ x. record_names x r) xs → None ≡ newest_progress r xs
newest_none r xs h = ap progress_in h ∙ found_progress r xs

or_none : (o : Option Progress) (b : Bool) (s : Progress) → or_else o (cond b (Some s) None) ≡ None → (b ≡ false) × (o ≡ None)
or_none (Some y) b s h = grind arith
or_none None true s h = grind arith
or_none None false s h = (refl, refl)

pub none_named : (r : ℕ) (xs : List HistoryRecord) → newest_progress r xs ≡ None → named r xs ≡ false
none_named r [] h = refl
none_named r (x ∷ xs) h =
    let p = or_none (newest_progress r xs) (is_register x.destination r) x.progress h in
    ap (λ b. b || named r xs) p.0 ∙ none_named r xs p.1

abbrev pub seen : Option Progress → ℕ → Option Status
seen None w = None
seen (Some s) w = Some (status_of s w)

join : (n : Option Progress) (e : Option ℕ) (s : Progress) (g : List ℕ) (r w : ℕ) → (n ≡ None → slice_index g r ≡ w) → or_else (seen n w) (cond (is_register e r) (Some (status_of s (word_at g e))) None) ≡ seen (or_else n (cond (is_register e r) (Some s) None)) w
join (Some y) e s g r w h = refl
join None None s g r w h = refl
join None (Some d) s g r w h =
    ⊎_elim
    (λ t. ap (λ b. cond b (Some (status_of s (slice_index g d))) None) t ∙ (ap (λ k. Some (status_of s k)) (ap (λ k. slice_index g k) (eqb-true d r t) ∙ h refl) ∙ sym (ap (λ b. seen (cond b (Some s) None) w) t)))
    (λ f. ap (λ b. cond b (Some (status_of s (slice_index g d))) None) f ∙ sym (ap (λ b. seen (cond b (Some s) None) w) f))
    (cases_Bool (d == r))

pub newest_is : (t r : ℕ) (xs : List HistoryRecord) (ws : List ℕ) → status_in (youngest r (flight_of t (slots_of xs ws))) ≡ seen (newest_progress r xs) (slice_index ws r)
newest_is t r [] ws = refl
newest_is t r (x ∷ xs) ws =
    in_or (youngest r (flight_of ((t + 1) % 256) (slots_of xs ws))) (is_register x.destination r) (entry_of t (slot_of x (unwind xs ws)))
    ∙ (ap (λ o. or_else o (cond (is_register x.destination r) (Some (status_of x.progress (word_at (unwind xs ws) x.destination))) None)) (newest_is ((t + 1) % 256) r xs ws)
    ∙ join (newest_progress r xs) x.destination x.progress (unwind xs ws) r (slice_index ws r) (λ n. unwind_get r xs ws (none_named r xs n)))

-- whether a record's progress holds its register up
abbrev pub unfinished : Option Progress → Bool
unfinished None = false
unfinished (Some Waiting) = true
unfinished (Some Finished) = false
unfinished (Some (Failed f)) = true

held_seen : (o : Option Entry) (n : Option Progress) (w : ℕ) → status_in o ≡ seen n w → held_up o ≡ unfinished n
held_seen None None w h = refl
held_seen None (Some p) w h = grind arith
held_seen (Some e) None w h = grind arith
held_seen (Some e) (Some Waiting) w h = let q : e.status ≡ Pending = cc in ap unready q
held_seen (Some e) (Some Finished) w h = let q : e.status ≡ Done w = cc in ap unready q
held_seen (Some e) (Some (Failed f)) w h = let q : e.status ≡ Faulted f = cc in ap unready q

word_seen : (o : Option Entry) (n : Option Progress) (v w : ℕ) → status_in o ≡ seen n w → unfinished n ≡ false → (n ≡ None → v ≡ w) → word_in o v ≡ w
word_seen None None v w h u k = k refl
word_seen None (Some p) v w h u k = grind arith
word_seen (Some e) None v w h u k = grind arith
word_seen (Some e) (Some Waiting) v w h u k = grind arith
word_seen (Some e) (Some Finished) v w h u k = let q : e.status ≡ Done w = cc in ap word_of q
word_seen (Some e) (Some (Failed f)) v w h u k = grind arith

-- what the search over the records tells
module _ (t r : ℕ) (xs : List HistoryRecord) (ws : List ℕ) where
  -- a register is held up by its youngest record alone
  pub held_by : held_up (youngest r (flight_of t (slots_of xs ws))) ≡ unfinished (newest_progress r xs)
  held_by = held_seen (youngest r (flight_of t (slots_of xs ws))) (newest_progress r xs) (slice_index ws r) (newest_is t r xs ws)

  -- one that is not held up has its newest word in the file
  pub word_by : unfinished (newest_progress r xs) ≡ false → word_in (youngest r (flight_of t (slots_of xs ws))) (slice_index (unwind xs ws) r) ≡ slice_index ws r
  word_by u =
      word_seen (youngest r (flight_of t (slots_of xs ws))) (newest_progress r xs) (slice_index (unwind xs ws) r) (slice_index ws r) (newest_is t r xs ws) u
      (λ n. unwind_get r xs ws (none_named r xs n))
