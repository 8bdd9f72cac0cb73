-- One call of a list, by what its own contract says.
use Rattle.std.proofs.Common.{◌≡◌, ℕ, List, [], ◌∷◌, length, take, Result, sym, refl, ap, subst}
use Rattle.isa.specs.declared.refusal.Refusal.{Refusal}
use Rattle.recovery.specs.declared.Timing.{Timing}
use Rattle.pickcore.specs.declared.record.CycleRecord.{CycleRecord}
use Rattle.pickcore.specs.Calls.{Machine, Steps}
use Rattle.precision.specs.Life.{Deed, other}
use Rattle.jobs.specs.declared.call.Call.{Call}
use Rattle.jobs.specs.declared.call.Call.TheVariants as call
use Rattle.jobs.specs.declared.call.Answer.{Answer}
use Rattle.jobs.specs.declared.call.Answer.TheVariants as answer
use Rattle.jobs.specs.Play.{event, simple, step_outcome, Made, Filled, RanInto, MadeInto}
use Rattle.jobs.proofs.Filling.{filled_none}

module _ (k : Timing) (program last : List ℕ) (records : List CycleRecord) (copies : List ℕ) (m : Machine) (ws : List ℕ) (c : Call) where
  -- a call of one event
  pub simply : (c' : Call) (a a' : Answer) (d : Deed) (n n' : Machine) → c ≡ c' → a ≡ a' → n ≡ n'
      → Made k program last records (length copies) m ws c' (simple m ws a' d n') → MadeInto k program last records copies m ws c a records copies n ws
  simply c' a a' d n n' is ea en made = record {
    outcome = simple m ws a' d n';
    made = subst (λ x. Made k program last records (length copies) m ws x (simple m ws a' d n')) (sym is) made;
    answers = ea;
    core = en;
    words = refl;
    records_filled = filled_none records;
    copies_filled = filled_none copies;
  }

  pub by_step : (r : Result CycleRecord Refusal) (n : Machine) (vs : List ℕ) → c ≡ call.Step → Steps k m program ws (record { answer = r; machine = n; words = vs }) → MadeInto k program last records copies m ws c (answer.Stepped r) records copies n vs
  by_step r n vs is st = record {
    outcome = step_outcome m (record { answer = r; machine = n; words = vs });
    made = subst (λ x. Made k program last records (length copies) m ws x (step_outcome m (record { answer = r; machine = n; words = vs }))) (sym is) (record { answer = r; machine = n; words = vs }, st, refl);
    answers = refl;
    core = refl;
    words = refl;
    records_filled = filled_none records;
    copies_filled = filled_none copies;
  }

  pub by_run : (limit : ℕ) (r : Result ℕ Refusal) (records' : List CycleRecord) (n : Machine) (vs : List ℕ) → c ≡ call.Run limit → RanInto k program records limit m ws r records' n vs
      → MadeInto k program last records copies m ws c (answer.Ran r) records' copies n vs
  by_run limit r records' n vs is ran = record {
    outcome = record { answer = answer.Ran r; records = ran.records; written = []; events = ran.events; machine = n; words = vs };
    made = subst (λ x. Made k program last records (length copies) m ws x (record { answer = answer.Ran r; records = ran.records; written = []; events = ran.events; machine = n; words = vs })) (sym is) ran.is;
    answers = refl;
    core = refl;
    words = refl;
    records_filled = ran.filled;
    copies_filled = filled_none copies;
  }

  pub by_copy : (many : ℕ) (copies' : List ℕ) → c ≡ call.Data → many ≡ length (take (length copies) ws) → Filled copies (take (length copies) ws) copies'
      → MadeInto k program last records copies m ws c (answer.Data many) records copies' m ws
  by_copy many copies' is e filled = record {
    outcome = record { answer = answer.Data (length (take (length copies) ws)); records = []; written = take (length copies) ws; events = event other m m ws ∷ []; machine = m; words = ws };
    made = subst (λ x. Made k program last records (length copies) m ws x (record { answer = answer.Data (length (take (length copies) ws)); records = []; written = take (length copies) ws; events = event other m m ws ∷ []; machine = m; words = ws })) (sym is) refl;
    answers = ap answer.Data e;
    core = refl;
    words = refl;
    records_filled = filled_none records;
    copies_filled = filled;
  }
