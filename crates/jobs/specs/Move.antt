-- A job that moves from one core to another: from a scanner that stopped to a spare.
use Rattle.std.specs.Prelude.{◌≡◌, ℕ, ◌+◌, cond, List, Some, None, Ok, Err, Option, Result}
use Rattle.isa.specs.declared.refusal.Refusal.{Refusal}
use Rattle.isa.specs.declared.refusal.Refusal.TheVariants as refusal
use Rattle.isa.specs.Table.{fetched}
use Rattle.isa.specs.Plain.{Plain}
use Rattle.recovery.specs.declared.Timing.{Timing}
use Rattle.images.specs.Image.{Snapshot, image_words}
use Rattle.pickcore.specs.declared.record.CycleRecord.{CycleRecord}
use Rattle.pickcore.specs.Calls.{Machine, load_refusal, resumed, taken_up, cut_leaves, Ran, imaged}
use Rattle.precision.specs.Steps.{steps}
use Rattle.precision.specs.Fit.{longest_of}
use Rattle.precision.specs.Life.{Event, Life}
use Rattle.precision.specs.Precise.{Agrees, Precise}
use Rattle.pickcore.specs.declared.setup.Setup.{Setup}
use Rattle.jobs.specs.declared.moved.Moved.{Moved}
use Rattle.jobs.specs.Precision.{loads_to}

-- why a job is not moved: the scanner runs, or the spare declines to load
abbrev pub move_refusal : Machine → Machine → Setup → Option Refusal
move_refusal scanner spare s = cond scanner.running (Some refusal.Running) (load_refusal spare s.delays s.capacity s.program_length s.data_length)

-- the spare as it takes the job over: loaded, with the image's state, and resumed at its counter
abbrev pub taken_over : Machine → Setup → Snapshot → Machine
taken_over spare setup s = resumed (taken_up (loads_to spare setup) s) s.counter

-- The plain machine p had taken `before` steps as the scanner stopped. From where it stood then it agrees with the spare
-- n, and the two counts together are the steps that it has taken, none with a fault: nothing half done has moved, and
-- nothing done is lost.
pub record GoesOn (k : Timing) (program : List ℕ) (p : Plain) (before : ℕ) (ws : List ℕ) (n : Machine) : Type 0 where
  pub here : Plain
  pub stood : steps (fetched program) before p ≡ Ok here
  pub agrees : Agrees k program here ws n
  pub total : steps (fetched program) (before + agrees.report.count) p ≡ Ok agrees.now

-- A moved job: the spare took over the image of the scanner with the data words ws, ran, was cut where it had made no
-- report by then, and stands at spare' with the data words vs. Its life is precise, and the plain machine that ran beside
-- the scanner goes on beside it.
pub record Moves (ka kb : Timing) (program : List ℕ) (setup : Setup) (scanner spare : Machine) (ws : List ℕ) (records : List CycleRecord) (moved : Moved) (spare' : Machine) (vs : List ℕ) (records' : List CycleRecord) : Type 0 where
  pub image : moved.image ≡ image_words (imaged ka scanner)
  pub last : Machine
  pub ran : Ran kb program (taken_over spare setup (imaged ka scanner)) ws records moved.cycles records' last vs
  pub core : spare' ≡ cut_leaves last
  pub events : List Event
  pub life : Life kb program (loads_to spare setup) ws events spare' vs
  pub precise : Precise kb program ws (longest_of setup.delays) events
  pub goes_on : (p : Plain) (a : Agrees ka program p ws scanner) → GoesOn kb program p a.report.count vs spare'

-- what comes of moving a job, by the answer
abbrev pub Moving : Timing → Timing → List ℕ → Setup → Machine → Machine → List ℕ → List CycleRecord → Result Moved Refusal → Machine → List ℕ → List CycleRecord → Type 0
Moving ka kb program setup scanner spare ws records (Ok m) spare' vs records' = (move_refusal scanner spare setup ≡ None) × Moves ka kb program setup scanner spare ws records m spare' vs records'
Moving ka kb program setup scanner spare ws records (Err x) spare' vs records' = (move_refusal scanner spare setup ≡ Some x) × (spare' ≡ spare) × (vs ≡ ws) × (records' ≡ records)
