-- A step from its parts.
use Rattle.std.proofs.Common.{◌≡◌, ℕ, List, length, Some, None, Ok, Err, Option, refl, ap, ◌∙◌, arith}
use Rattle.isa.specs.declared.refusal.Refusal.{Refusal}
use Rattle.recovery.specs.declared.Timing.{Timing}
use Rattle.pickcore.specs.declared.record.CycleRecord.{CycleRecord}
use Rattle.isa.specs.declared.fault.Cause.{Cause}
use Rattle.pickcore.specs.declared.record.Ending.{Ending}
use Rattle.pickcore.specs.declared.record.Ending.TheVariants.{Issued, Stored, Held, Stopped}
use Rattle.pickcore.specs.Record.{record_of}
use Rattle.pickcore.specs.Cycle.{Pipe, cycle, retires, flight_at_admission, Chosen}
use Rattle.pickcore.specs.Calls.{Machine, accepted, goes_on, after_ending, step_refusal, turned, step_by, Steps}
use Rattle.pickcore.specs.Model.{setting}
use Rattle.pickcore.proofs.Tags.{fresh_tag, freely}

module _ (k : Timing) (m : Machine) (program ws : List ℕ) where
  pub step_refused : (x : Refusal) → Some x ≡ step_refusal m (length program) (length ws) → Steps k m program ws (record { answer = Err x; machine = m; words = ws })
  step_refused x h =
      let f = fresh_tag (flight_at_admission m.pipe) in
      record { tag = f.0; free = f.1; is = ap (step_by k m program ws f.0) h }

  pub step_taken : (ret : Option ℕ) (e : Ending) (p : Pipe) (vs : List ℕ) (r : CycleRecord) (n : Machine) → None ≡ step_refusal m (length program) (length ws) → ret ≡ retires m.pipe
      → Chosen (λ t. cycle (setting k m.delays program) m.requested t m.pipe ws) (flight_at_admission m.pipe) e (record { ending = e; pipe = p; words = vs })
      → r ≡ record_of ret e → n ≡ after_ending m p e → Steps k m program ws (record { answer = Ok r; machine = n; words = vs })
  step_taken ret e p vs r n h a c re ne =
      let f = freely (setting k m.delays program) m.requested m.pipe ws (record { ending = e; pipe = p; words = vs }) c in
      record {
        tag = f.0;
        free = f.1;
        is = ap (λ y. record { answer = Ok y; machine = n; words = vs }) (re ∙ ap (λ y. record_of y e) a)
            ∙ (ap (λ y. record { answer = Ok (record_of (retires m.pipe) e); machine = y; words = vs }) ne
            ∙ (ap (turned m) f.2 ∙ ap (step_by k m program ws f.0) h));
      }

-- what is accepted has no refusal, and what is declined has this one
pub accepted_none : (o : Option Refusal) (u : Unit {0}) → Ok u ≡ accepted o → None ≡ o
accepted_none None u e = refl
accepted_none (Some x) u e = grind arith

pub declined_some : (o : Option Refusal) (x : Refusal) → Err x ≡ accepted o → Some x ≡ o
declined_some None x e = grind arith
declined_some (Some y) x e = let q : x ≡ y = cc in ap Some q

pub still_going : (m : Machine) (p : Pipe) (e : Ending) → ((c : Cause) → e ≡ Stopped c → ⊥) → after_ending m p e ≡ goes_on m p
still_going m p (Issued c) h = refl
still_going m p (Stored c) h = refl
still_going m p (Held y) h = refl
still_going m p (Stopped c) h = absurd (h c refl)
