-- A run from its steps.
use Rattle.std.proofs.Common.{◌≡◌, ℕ, ◌+◌, ◌<◌, ◌≤◌, List, length, take, drop, set, Ok, sym, refl, ap, ◌∙◌, subst, arith, length-set}
use Rattle.std.proofs.lemmas.List.{take_more_set, drop-set-lt, drop-drop}
use Rattle.recovery.specs.declared.Timing.{Timing}
use Rattle.pickcore.specs.declared.record.CycleRecord.{CycleRecord}
use Rattle.pickcore.specs.Calls.{Machine, Steps, Rows, none, more}

module _ (k : Timing) (program : List ℕ) (m : Machine) (ws : List ℕ) (before : List CycleRecord) where
  -- after c steps
  pub record SoFar (c : ℕ) (after : List CycleRecord) (n : Machine) (vs : List ℕ) : Type 0 where
    pub few : c ≤ length before
    pub long : length after ≡ length before
    pub rows : Rows k program m ws (take c after) n vs
    pub kept : drop c after ≡ drop c before

  pub so_none : SoFar 0 before m ws
  so_none = record { few = omega arith; long = refl; rows = none; kept = refl }

  pub so_more : (c : ℕ) (after : List CycleRecord) (n o : Machine) (vs us : List ℕ) (r : CycleRecord) → c < length after → SoFar c after n vs
      → Steps k n program vs (record { answer = Ok r; machine = o; words = us }) → SoFar (c + 1) (set after c r) o us
  so_more c after n o vs us r l h s = record {
    few = omega arith;
    long = length-set after c r ∙ h.long;
    rows = subst (λ rs. Rows k program m ws rs o us) (sym (take_more_set after c r l)) (more r h.rows s);
    kept = drop-set-lt (c + 1) after c r (omega arith) ∙ (sym (drop-drop 1 c after) ∙ (ap (drop 1) h.kept ∙ drop-drop 1 c before));
  }
