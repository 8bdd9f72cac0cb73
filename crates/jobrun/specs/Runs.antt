-- What the programs print for a job.
use Rattle.std.specs.Prelude.{◌≡◌, ℕ, cond, List, [], ◌++◌, length, take, Some, None, Ok, Err, codes, decimal, Option, Result, ◌==◌}
use Rattle.isa.specs.declared.fault.Fault.{Fault}
use Rattle.isa.specs.declared.refusal.Refusal.{Refusal}
use Rattle.isa.specs.Numbers.{fault_number}
use Rattle.isa.specs.Plain.{Outcome, ran, at_zero}
use Rattle.recovery.specs.declared.Timing.{Timing}
use Rattle.recovery.specs.declared.Timing.TheVariants.{Early, Late}
use Rattle.pickcore.specs.declared.record.CycleRecord.{CycleRecord}
use Rattle.pickcore.specs.declared.record.Report.{Report}
use Rattle.pickcore.specs.Calls.{Machine, unloaded, loaded, load_refusal, resumed, Ran, report_answer}
use Rattle.jobfile.specs.declared.scheme.Scheme.{Scheme}
use Rattle.jobfile.specs.declared.scheme.Scheme.TheVariants.{ReorderBuffer, BypassBuffer, HistoryBuffer, FutureFile}
use Rattle.jobfile.specs.Jobs.{Order, read_job}
use Rattle.jobfile.specs.Lines.{numbered, hex_word, cycle_line, stop_line, declined_line}

-- the mark of each scheme
abbrev pub timing_of : Scheme → Timing
timing_of ReorderBuffer = Late
timing_of BypassBuffer = Early
timing_of HistoryBuffer = Early
timing_of FutureFile = Early

-- bytes that hold no job
abbrev pub input_line : List ℕ
input_line = codes "input\n"

-- the refusal of load, if it declines the job
abbrev pub refused : Order → Option Refusal
refused o = load_refusal unloaded o.delays o.capacity (length o.program) (length o.words)

-- Running on the core

-- the lines of some cycles, numbered from 1
abbrev pub cycle_lines : List CycleRecord → List ℕ
cycle_lines rs = numbered cycle_line 1 rs

abbrev pub last_line : Result Report Refusal → List ℕ
last_line (Ok r) = stop_line r
last_line (Err x) = codes "running\n"

-- the core that a job starts: loaded, and resumed at 0
abbrev pub started : Order → Machine
started o = resumed (loaded o.delays o.capacity (length o.program) (length o.words)) 0

-- a run of the job's cycles on a core whose scheme has this mark, and its lines
pub record RunOf (k : Timing) (o : Order) (text : List ℕ) : Type 0 where
  pub before : List CycleRecord
  pub after : List CycleRecord
  pub count : ℕ
  pub machine : Machine
  pub words : List ℕ
  pub cycles : length before ≡ o.cycles
  pub run : Ran k o.program (started o) o.words before count after machine words
  pub lines : text ≡ cycle_lines (take count after) ++ last_line (report_answer machine)

abbrev pub PrintsBy : Timing → Order → Option Refusal → List ℕ → Type 0
PrintsBy k o (Some x) text = text ≡ declined_line x
PrintsBy k o None text = RunOf k o text

-- what pickrun prints for a job
abbrev pub PrintsJob : Order → List ℕ → Type 0
PrintsJob o text = PrintsBy (timing_of o.scheme) o (refused o) text

abbrev pub PrintsOrder : Option Order → List ℕ → Type 0
PrintsOrder None text = text ≡ input_line
PrintsOrder (Some o) text = PrintsJob o text

-- what pickrun prints for its input
abbrev pub Prints : List ℕ → List ℕ → Type 0
Prints bytes text = PrintsOrder (read_job bytes) text

-- Running on the plain machine

-- a register that is not zero, by its number
abbrev pub register_line : ℕ → ℕ → List ℕ
register_line i w = cond (w == 0) [] (codes "r" ++ (decimal i ++ (codes " " ++ (hex_word w ++ codes "\n"))))

abbrev pub end_line : Result (Unit {0}) Fault → ℕ → List ℕ
end_line (Ok u) counter = codes "at " ++ (decimal counter ++ codes "\n")
end_line (Err f) counter = codes "fault " ++ (decimal (fault_number f) ++ (codes " " ++ (decimal counter ++ codes "\n")))

abbrev pub plain_lines : Outcome → List ℕ
plain_lines o = codes "steps " ++ (decimal o.taken ++ (codes "\n" ++ (end_line o.fault o.last.counter ++ numbered register_line 0 o.last.registers)))

abbrev pub plain_by : Order → Option Refusal → List ℕ
plain_by o (Some x) = declined_line x
plain_by o None = plain_lines (ran o.program o.cycles (at_zero o.words))

abbrev pub plain_order : Option Order → List ℕ
plain_order None = input_line
plain_order (Some o) = plain_by o (refused o)

-- what plainrun prints for its input
abbrev pub plain_text : List ℕ → List ℕ
plain_text bytes = plain_order (read_job bytes)
