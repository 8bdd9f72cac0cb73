-- Precision of a list of calls on a core that is loaded first: every outcome of the public call.
use Rattle.std.specs.Prelude.{◌≡◌, ℕ, ◌<◌, ◌≤◌, List, length, Some, None, Ok, Err, Result}
use Rattle.recovery.specs.declared.Timing.{Timing}
use Rattle.pickcore.specs.declared.record.CycleRecord.{CycleRecord}
use Rattle.pickcore.specs.Calls.{Machine, load_refusal, load_leaves}
use Rattle.precision.specs.Fit.{longest_of}
use Rattle.precision.specs.Life.{Event, Life}
use Rattle.precision.specs.Precise.{Precise}
use Rattle.jobs.specs.declared.call.Call.{Call}
use Rattle.jobs.specs.declared.call.Answer.{Answer}
use Rattle.pickcore.specs.declared.setup.Setup.{Setup}
use Rattle.jobs.specs.declared.call.Totals.{Totals}
use Rattle.jobs.specs.declared.play.NotPlayed.{NotPlayed}
use Rattle.jobs.specs.declared.play.NotPlayed.TheVariants as not-played
use Rattle.jobs.specs.Play.{Played, Plays}

-- the lists and the data words are as they were
pub record Untouched (answers answers' : List Answer) (records records' : List CycleRecord) (copies copies' ws vs : List ℕ) : Type 0 where
  pub same_answers : answers' ≡ answers
  pub same_records : records' ≡ records
  pub same_copies : copies' ≡ copies
  pub same_words : vs ≡ ws

abbrev pub loads_to : Machine → Setup → Machine
loads_to m s = load_leaves m s.delays s.capacity s.program_length s.data_length

-- The calls were made on the core as it was loaded; its life through them is precise: every report agrees with the plain
-- machine beside it, a fault is that machine's next one, and the core never stood still past the longest delay.
pub record Precisely (k : Timing) (program : List ℕ) (setup : Setup) (calls : List Call) (answers : List Answer) (records : List CycleRecord) (copies : List ℕ) (m : Machine) (ws : List ℕ) (t : Totals) (answers' : List Answer) (records' : List CycleRecord) (copies' : List ℕ) (n : Machine) (vs : List ℕ) : Type 0 where
  pub room : length calls ≤ length answers
  pub loaded : load_refusal m setup.delays setup.capacity setup.program_length setup.data_length ≡ None
  pub plays : Plays k program calls answers records copies (loads_to m setup) ws t answers' records' copies' n vs
  pub life : Life k program (loads_to m setup) ws plays.events n vs
  pub precise : Precise k program ws (longest_of setup.delays) plays.events

-- what comes of a list of calls, by the answer
abbrev pub Outcomes : Timing → List ℕ → Setup → List Call → List Answer → List CycleRecord → List ℕ → Machine → List ℕ → Result Totals NotPlayed → List Answer → List CycleRecord → List ℕ → Machine → List ℕ → Type 0
Outcomes k program setup calls answers records copies m ws (Ok t) answers' records' copies' n vs = Precisely k program setup calls answers records copies m ws t answers' records' copies' n vs
Outcomes k program setup calls answers records copies m ws (Err not-played.Answers) answers' records' copies' n vs = (length answers < length calls) × (n ≡ m) × Untouched answers answers' records records' copies copies' ws vs
Outcomes k program setup calls answers records copies m ws (Err (not-played.Load x)) answers' records' copies' n vs =
    (length calls ≤ length answers) × (load_refusal m setup.delays setup.capacity setup.program_length setup.data_length ≡ Some x) × (n ≡ m) × Untouched answers answers' records records' copies copies' ws vs

-- every list of calls on a core just loaded is a life of it, and so is precise, over every scheme and whatever tags it chose
abbrev pub ListsArePrecise : Type 0
ListsArePrecise =
    (k : Timing) (program : List ℕ) (setup : Setup) (places : List CycleRecord) (space : ℕ) (m : Machine) (ws : List ℕ) (calls : List Call) (given : List Answer) (rows : List CycleRecord) (copied image : List ℕ) (events : List Event) (n : Machine) (vs : List ℕ)
    → length setup.delays ≡ 4 → load_refusal m setup.delays setup.capacity setup.program_length setup.data_length ≡ None
    → Played k program places space (loads_to m setup) ws calls given rows copied image events n vs
    → Life k program (loads_to m setup) ws events n vs × Precise k program ws (longest_of setup.delays) events
