-- Precision: the plain machine beside a core through its life, and what the two have in common at every report.
use Rattle.std.specs.Prelude.{◌≡◌, ℕ, ◌+◌, ◌≤◌, Bool, true, false, cond, not, ◌&&◌, List, [], ◌∷◌, length, Some, None, Ok, Err, ◌==◌, slice_set}
use Rattle.isa.specs.declared.fault.Fault.{Fault}
use Rattle.isa.specs.declared.fault.Cause.TheVariants as cause
use Rattle.isa.specs.Table.{fetched, value_or}
use Rattle.isa.specs.Plain.{Plain, stepped, at_zero}
use Rattle.recovery.specs.declared.Timing.{Timing}
use Rattle.images.specs.Image.{Snapshot}
use Rattle.pickcore.specs.declared.record.Report.{Report}
use Rattle.pickcore.specs.Calls.{Machine, load_refusal, load_leaves, report_answer, registers_answer}
use Rattle.precision.specs.Fit.{longest_of}
use Rattle.precision.specs.Steps.{steps}
use Rattle.precision.specs.Life.{Deed, step, cut, amend, take_up, resume, other, Event, Life}

-- The plain machine beside a core

-- an event made a report: the core ran before it, and is stopped after it
abbrev pub reported : Machine → Machine → Bool
reported before after = before.running && not after.running

-- at a report the plain machine takes as many steps as the report's count; else it stays as it is
abbrev pub followed : List ℕ → Plain → Machine → Machine → Plain
followed program p before after = cond (reported before after) (value_or p (steps (fetched program) after.pipe.count p)) p

abbrev pub with_register : Plain → ℕ → ℕ → Plain
with_register p r w = record { registers = slice_set p.registers r w; words = p.words; counter = p.counter }

abbrev pub with_state : Plain → Snapshot → Plain
with_state p s = record { registers = s.registers; words = p.words; counter = s.counter }

abbrev pub with_counter : Plain → ℕ → Plain
with_counter p c = record { registers = p.registers; words = p.words; counter = c }

-- what an event does to the plain machine
abbrev pub plain_after : List ℕ → Plain → Deed → Machine → Machine → Plain
plain_after program p (step r) before after = followed program p before after
plain_after program p cut before after = followed program p before after
plain_after program p (amend r w) before after = with_register p r w
plain_after program p (take_up s) before after = with_state p s
plain_after program p (resume c) before after = with_counter p c
plain_after program p other before after = p

-- the plain machine after some events, the newest first: it starts all zero, with the first data words
abbrev pub plain_beside : List ℕ → List ℕ → List Event → Plain
plain_beside program ws [] = at_zero ws
plain_beside program ws (e ∷ es) = plain_after program (plain_beside program ws es) e.deed e.before e.after

-- The two at a report

-- What `report` and `registers` answer of the core n, whose data words are ws, agrees with the plain machine p: this can
-- take as many steps as the report's count, none with a fault, and then has these registers, this counter and these data
-- words; and a cause that is a fault is the fault of its next step.
pub record Agrees (k : Timing) (program : List ℕ) (p : Plain) (ws : List ℕ) (n : Machine) : Type 0 where
  pub report : Report
  pub answers : report_answer n ≡ Ok report
  pub now : Plain
  pub ran : steps (fetched program) report.count p ≡ Ok now
  pub registers : registers_answer k n ≡ (now.registers, 0)
  pub counter : now.counter ≡ report.counter
  pub words : now.words ≡ ws
  pub fault : (f : Fault) → report.cause ≡ Some (cause.Fault f) → stepped program now ≡ Err f

-- Between two reports

-- a step that neither raised the count nor made a report is one more in a row
abbrev pub quiet : ℕ → Machine → Machine → ℕ
quiet z before after = cond (after.running && after.pipe.count == before.pipe.count) (z + 1) 0

-- accepted steps in a row, since the last resume, that neither raised the count nor made a report
abbrev pub quiet_after : ℕ → Deed → Machine → Machine → ℕ
quiet_after z (step r) before after = quiet z before after
quiet_after z cut before after = z
quiet_after z (amend r w) before after = z
quiet_after z (take_up s) before after = z
quiet_after z (resume c) before after = 0
quiet_after z other before after = z

abbrev pub quiet_steps : List Event → ℕ
quiet_steps [] = 0
quiet_steps (e ∷ es) = quiet_after (quiet_steps es) e.deed e.before e.after

-- The theorem

-- at every event: a report agrees with the plain machine, and the core has not stood still past the longest delay
abbrev pub Precise : Timing → List ℕ → List ℕ → ℕ → List Event → Type 0
Precise k program ws longest [] = Unit {0}
Precise k program ws longest (e ∷ es) =
    (reported e.before e.after ≡ true → Agrees k program (plain_beside program ws es) e.words e.after)
    × (quiet_steps (e ∷ es) ≤ longest)
    × Precise k program ws longest es

-- every life of a core that was just loaded is precise
abbrev pub LivesArePrecise : Type 0
LivesArePrecise =
    (k : Timing) (program ws : List ℕ) (old : Machine) (delays : List ℕ) (capacity program_length data_length : ℕ) (es : List Event) (n : Machine) (vs : List ℕ)
    → length delays ≡ 4 → load_refusal old delays capacity program_length data_length ≡ None
    → Life k program (load_leaves old delays capacity program_length data_length) ws es n vs → Precise k program ws (longest_of delays) es

-- whenever such a core is stopped, the plain machine beside it has its registers and its data words
abbrev pub StoppedCoresAgree : Type 0
StoppedCoresAgree =
    (k : Timing) (program ws : List ℕ) (old : Machine) (delays : List ℕ) (capacity program_length data_length : ℕ) (es : List Event) (n : Machine) (vs : List ℕ)
    → length delays ≡ 4 → load_refusal old delays capacity program_length data_length ≡ None
    → Life k program (load_leaves old delays capacity program_length data_length) ws es n vs → n.running ≡ false
    → (registers_answer k n ≡ ((plain_beside program ws es).registers, 0)) × ((plain_beside program ws es).words ≡ vs)
