-- What the desk prints for a script.
use Rattle.std.specs.Prelude.{◌≡◌, ℕ, ◌*◌, Bool, true, false, List, [], ◌∷◌, ◌++◌, map, length, take, drop, Some, None, Ok, Err, sum_by, count_by, Option, Result}
use Rattle.isa.specs.declared.refusal.Refusal.{Refusal}
use Rattle.recovery.specs.declared.Timing.{Timing}
use Rattle.pickcore.specs.declared.record.CycleRecord.{CycleRecord}
use Rattle.pickcore.specs.Calls.{Machine, unloaded, load_refusal}
use Rattle.precision.specs.Fit.{longest_of}
use Rattle.precision.specs.Life.{Event}
use Rattle.precision.specs.Precise.{Precise}
use Rattle.jobs.specs.declared.call.Call.{Call}
use Rattle.jobs.specs.declared.call.Call.TheVariants as call
use Rattle.jobs.specs.declared.call.Answer.{Answer}
use Rattle.pickcore.specs.declared.setup.Setup.{Setup}
use Rattle.pickcore.specs.Setup.{setup_for}
use Rattle.jobs.specs.Play.{Played, records_in, copies_in, reports_in, instructions_in, cycles_in}
use Rattle.jobs.specs.Precision.{loads_to}
use Rattle.jobrun.specs.Runs.{timing_of}
use Rattle.script.specs.Scripts.{Scripted, script_of}
use Rattle.script.specs.Told.{asked}
use Rattle.printing.specs.Lines.{call_name, answer_lines, load_line, totals_line, input_line}

-- the cycles that a call asks for at most, and those of all calls
abbrev pub cycles_in_call : Call → ℕ
cycles_in_call call.Step = 0
cycles_in_call (call.Run limit) = limit
cycles_in_call call.Request = 0
cycles_in_call call.Cut = 0
cycles_in_call (call.Amend r w) = 0
cycles_in_call (call.TakeUp image) = 0
cycles_in_call call.TakeUpImage = 0
cycles_in_call (call.Resume c) = 0
cycles_in_call call.Report = 0
cycles_in_call call.Registers = 0
cycles_in_call call.Image = 0
cycles_in_call call.Data = 0

abbrev pub cycles_asked : List Call → ℕ
cycles_asked calls = sum_by cycles_in_call calls

-- whether a call asks for the data words, and how many calls do
abbrev pub asks_data : Call → Bool
asks_data call.Step = false
asks_data (call.Run limit) = false
asks_data call.Request = false
asks_data call.Cut = false
asks_data (call.Amend r w) = false
asks_data (call.TakeUp image) = false
asks_data call.TakeUpImage = false
asks_data (call.Resume c) = false
asks_data call.Report = false
asks_data call.Registers = false
asks_data call.Image = false
asks_data call.Data = true

abbrev pub copies_asked : List Call → ℕ
copies_asked calls = count_by asks_data calls

-- the lines of some answers, each with the records and the data words that its call wrote
abbrev pub answers_text : List Call → List Answer → List CycleRecord → List ℕ → List ℕ
answers_text [] xs rows copied = []
answers_text (c ∷ cs) [] rows copied = []
answers_text (c ∷ cs) (a ∷ xs) rows copied =
    answer_lines (call_name c) a (take (records_in a) rows) (take (copies_in a) copied) ++ answers_text cs xs (drop (records_in a) rows) (drop (copies_in a) copied)

-- The calls were made on a core that was just loaded, lent a place for every cycle and for every data word that they ask
-- for. Their life is precise, and the text is their answers, between the answer to the load and the totals.
pub record Told (k : Timing) (setup : Setup) (program ws : List ℕ) (calls : List Call) (text : List ℕ) : Type 0 where
  pub places : List CycleRecord
  pub many : length places ≡ cycles_asked calls
  pub given : List Answer
  pub rows : List CycleRecord
  pub copied : List ℕ
  pub image : List ℕ
  pub events : List Event
  pub last : Machine
  pub words : List ℕ
  pub played : Played k program places (copies_asked calls * length ws) (loads_to unloaded setup) ws calls given rows copied image events last words
  pub precise : Precise k program ws (longest_of setup.delays) events
  pub lines : text ≡ load_line (Ok tt) ++ (answers_text calls given rows copied ++ totals_line (reports_in events) (instructions_in events) (cycles_in events))

-- where the core declines to load, that is the only line
abbrev pub Tells : Timing → Setup → List ℕ → List ℕ → List Call → Option Refusal → List ℕ → Type 0
Tells k setup program ws calls (Some x) text = text ≡ load_line (Err x)
Tells k setup program ws calls None text = Told k setup program ws calls text

abbrev pub TellsOn : Timing → List ℕ → ℕ → List ℕ → List ℕ → List Call → List ℕ → Type 0
TellsOn k delays capacity program ws calls text =
    let setup = setup_for delays capacity program ws in
    Tells k setup program ws calls (load_refusal unloaded delays capacity setup.program_length setup.data_length) text

-- a script, and calls that are those it asks for
abbrev pub PrintsScript : Scripted → List ℕ → Type 0
PrintsScript s text = (calls : List Call) × (map asked calls ≡ s.calls) × TellsOn (timing_of s.scheme) s.delays s.capacity s.program s.words calls text

abbrev pub PrintsRead : Result Scripted ℕ → List ℕ → Type 0
PrintsRead (Ok s) text = PrintsScript s text
PrintsRead (Err n) text = text ≡ input_line n

-- what the desk prints for its input
abbrev pub PrintsDesk : List ℕ → List ℕ → Type 0
PrintsDesk input text = PrintsRead (script_of input) text
