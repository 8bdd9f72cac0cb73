-- An admission to slots: one more, with the next tag, unless they are full.
use Rattle.std.proofs.Common.{◌≡◌, ℕ, ◌+◌, ◌%◌, ◌<◌, ◌≤◌, Bool, true, false, cond, List, [], ◌∷◌, ◌++◌, length, Ok, Err, Option, Result, nat_le, refl, sym, ap, ◌∙◌, arith}
use Rattle.recovery.specs.declared.AdmitError.{AdmitError}
use Rattle.recovery.specs.declared.AdmitError.TheVariants.{Awaited, Full}
use Rattle.recovery.specs.declared.slots.Slot.{Slot}
use Rattle.recovery.specs.Meaning.{Meaning, awaited_destination, full, has_tag, new_entry, first_status, with_flight, Admits}
use Rattle.recovery.specs.Slots.{in_slots}
use Rattle.recovery.proofs.Flights.{flight_length, fresh, pushed}

-- the slot of an instruction that is just admitted
abbrev pub new_slot : ℕ → Option ℕ → Slot
new_slot c d = record { counter = c; destination = d; status = first_status d }

pub cond_map : {A : Type 0} {B : Type 0} (f : A → B) (b : Bool) (x y : A) → f (cond b x y) ≡ cond b (f x) (f y)
cond_map f true x y = refl
cond_map f false x y = refl

module _ (ws : List ℕ) (k t : ℕ) (ss : List Slot) (l : t < 256) (h : k ≤ 16) (r : length ss ≤ k) (c : ℕ) (d : Option ℕ) where
  abbrev here : Meaning
  here = in_slots ws k t ss

  abbrev next : ℕ
  next = (t + length ss) % 256

  abbrev more : Meaning
  more = in_slots ws k t (ss ++ (new_slot c d ∷ []))

  more_is : more ≡ with_flight here (here.flight ++ (new_entry next c d ∷ []))
  more_is = ap (with_flight here) (pushed t ss (new_slot c d) l)

  full_is : full here ≡ nat_le k (length ss)
  full_is = ap (nat_le k) (flight_length t ss)

  next_free : has_tag next here.flight ≡ false
  next_free = fresh t ss l (omega arith)

  pub admits : (a : Result ℕ AdmitError) (n : Meaning) → false ≡ awaited_destination here d → a ≡ cond (nat_le k (length ss)) (Err Full) (Ok next) → n ≡ cond (nat_le k (length ss)) here more → Admits here c d a n
  admits a n w e q = record {
    tag = next;
    free = λ _. (omega arith, next_free);
    answer = e ∙ (ap (λ b. cond b (Err Full) (Ok next)) (sym full_is) ∙ ap (λ b. cond b (Err Awaited) (cond (full here) (Err Full) (Ok next))) w);
    leaves = q ∙ (ap (λ m. cond (nat_le k (length ss)) here m) more_is
        ∙ (ap (λ b. cond b here (with_flight here (here.flight ++ (new_entry next c d ∷ [])))) (sym full_is)
        ∙ ap (λ b. cond b here (cond (full here) here (with_flight here (here.flight ++ (new_entry next c d ∷ []))))) w));
  }
