-- Precision: a core and the plain machine through any list of loads, steps, runs, requests, cuts, amends and resumes. The
-- lists with take-ups too are the lives of Life.antt.
use Rattle.std.specs.Prelude.{◌≡◌, ℕ, ◌≤◌, true, List, length, Some, None, Ok, Err}
use Rattle.isa.specs.declared.fault.Fault.{Fault}
use Rattle.isa.specs.declared.fault.Cause.TheVariants as cause
use Rattle.isa.specs.declared.refusal.Refusal.{Refusal}
use Rattle.isa.specs.Table.{fetched}
use Rattle.isa.specs.Plain.{Plain, stepped, at_zero}
use Rattle.recovery.specs.declared.Timing.{Timing}
use Rattle.pickcore.specs.declared.record.CycleRecord.{CycleRecord}
use Rattle.pickcore.specs.Calls.{Machine, unless, load_refusal, load_leaves, resume_refusal, resume_leaves, amend_refusal, amend_leaves, request_leaves, cut_leaves, Step, Steps, Rows}
use Rattle.precision.specs.Fit.{longest_of}
use Rattle.precision.specs.Steps.{steps}
use Rattle.precision.specs.Precise.{reported, followed, quiet, with_register, with_counter}

-- The plain machine p beside the core m, after any list of calls, where ws are the data words that the last accepted
-- step left, or the first ones, and z accepted steps in a row have been quiet since the last resume. Every accepted step
-- is handed the program, and the data words as they were left.
pub data Along (k : Timing) (program : List ℕ) : Plain → List ℕ → ℕ → Machine → Type 0 where
  -- a core just loaded, and the plain machine all zero, with the data words handed to the first accepted step
  loads : (m : Machine) (delays : List ℕ) (capacity program_length data_length : ℕ) (ws : List ℕ) → length delays ≡ 4 → load_refusal m delays capacity program_length data_length ≡ None
      → Along k program (at_zero ws) ws 0 (load_leaves m delays capacity program_length data_length)
  -- an accepted step
  steps_on : {p : Plain} {ws : List ℕ} {z : ℕ} {m : Machine} (s : Step) (r : CycleRecord) → Along k program p ws z m → Steps k m program ws s → s.answer ≡ Ok r
      → Along k program (followed program p m s.machine) s.words (quiet z m s.machine) s.machine
  -- a declined step, whatever it was lent
  declines : {p : Plain} {ws : List ℕ} {z : ℕ} {m : Machine} (lent words : List ℕ) (s : Step) (x : Refusal) → Along k program p ws z m → Steps k m lent words s → s.answer ≡ Err x
      → Along k program p ws z s.machine
  -- the other calls, accepted or declined
  requests : {p : Plain} {ws : List ℕ} {z : ℕ} {m : Machine} → Along k program p ws z m → Along k program p ws z (request_leaves m)
  cuts : {p : Plain} {ws : List ℕ} {z : ℕ} {m : Machine} → Along k program p ws z m → Along k program (followed program p m (cut_leaves m)) ws z (cut_leaves m)
  amends : {p : Plain} {ws : List ℕ} {z : ℕ} {m : Machine} (r w : ℕ) → Along k program p ws z m → Along k program (unless (amend_refusal m r) (with_register p r w) p) ws z (amend_leaves m r w)
  resumes : {p : Plain} {ws : List ℕ} {z : ℕ} {m : Machine} (c : ℕ) → Along k program p ws z m → Along k program (unless (resume_refusal m c) (with_counter p c) p) ws (unless (resume_refusal m c) 0 z) (resume_leaves m c)

-- a report of the core n agrees with the plain machine p: that can take as many steps as the count, none with a fault,
-- and then has the same registers, data words and counter; and a fault is the fault of its next step
pub record Agrees (program : List ℕ) (p : Plain) (ws : List ℕ) (n : Machine) : Type 0 where
  pub now : Plain
  pub ran : steps (fetched program) n.pipe.count p ≡ Ok now
  pub registers : now.registers ≡ n.pipe.scheme.settled
  pub words : now.words ≡ ws
  pub counter : now.counter ≡ n.pipe.next
  pub fault : (f : Fault) → n.cause ≡ Some (cause.Fault f) → stepped program now ≡ Err f

-- whatever the calls were: a report that a step makes agrees
abbrev pub StepsAgree : Type 0
StepsAgree = (k : Timing) (program : List ℕ) (p : Plain) (ws : List ℕ) (z : ℕ) (m : Machine) (s : Step) (r : CycleRecord) → Along k program p ws z m → Steps k m program ws s → s.answer ≡ Ok r
    → reported m s.machine ≡ true → Agrees program p s.words s.machine

-- so does one that a cut makes
abbrev pub CutsAgree : Type 0
CutsAgree = (k : Timing) (program : List ℕ) (p : Plain) (ws : List ℕ) (z : ℕ) (m : Machine) → Along k program p ws z m
    → reported m (cut_leaves m) ≡ true → Agrees program p ws (cut_leaves m)

-- and there are never more quiet steps in a row than the longest delay
abbrev pub NeverStandsStill : Type 0
NeverStandsStill = (k : Timing) (program : List ℕ) (p : Plain) (ws : List ℕ) (z : ℕ) (m : Machine) → Along k program p ws z m → z ≤ longest_of m.delays

-- a run is its accepted steps
abbrev pub RunsAreSteps : Type 0
RunsAreSteps = (k : Timing) (program : List ℕ) (p : Plain) (ws : List ℕ) (z : ℕ) (m : Machine) (rs : List CycleRecord) (n : Machine) (vs : List ℕ) → Along k program p ws z m → Rows k program m ws rs n vs
    → (q : Plain) × (y : ℕ) × Along k program q vs y n
