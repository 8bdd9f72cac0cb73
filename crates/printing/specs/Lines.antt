-- The lines that the desk and the cradle print.
use Rattle.std.specs.Prelude.{ℕ, Bool, true, false, List, ◌++◌, Ok, Err, codes, decimal, Result}
use Rattle.std.specs.List.{flat_map}
use Rattle.isa.specs.declared.refusal.Refusal.{Refusal}
use Rattle.isa.specs.declared.refusal.Refusal.TheVariants as refusal
use Rattle.isa.specs.Numbers.{cause_or_0}
use Rattle.pickcore.specs.declared.record.CycleRecord.{CycleRecord}
use Rattle.pickcore.specs.declared.record.Report.{Report}
use Rattle.jobfile.specs.Lines.{numbered, cycle_text, report_text, hex_word}
use Rattle.jobs.specs.declared.call.Call.{Call}
use Rattle.jobs.specs.declared.call.Call.TheVariants as call
use Rattle.jobs.specs.declared.call.Answer.{Answer}
use Rattle.jobs.specs.declared.call.Answer.TheVariants as answer
use Rattle.printing.specs.declared.device.Device.{Device}
use Rattle.printing.specs.declared.device.Device.TheVariants.{Scanner, Spare}

-- the name of every call
abbrev pub call_name : Call → List ℕ
call_name call.Step = codes "step"
call_name (call.Run n) = codes "run"
call_name call.Request = codes "request"
call_name call.Cut = codes "cut"
call_name (call.Amend r w) = codes "amend"
call_name (call.TakeUp ws) = codes "take-up"
call_name call.TakeUpImage = codes "take-up"
call_name (call.Resume n) = codes "resume"
call_name call.Report = codes "report"
call_name call.Registers = codes "registers"
call_name call.Image = codes "image"
call_name call.Data = codes "data"

-- a call that was accepted and answers nothing
abbrev pub ok_line : List ℕ → List ℕ
ok_line name = name ++ codes " ok\n"

-- that a call was declined: by its number; the index of a bad word stands behind it, and no other number has one
abbrev pub declined_text : Refusal → List ℕ
declined_text refusal.Delay = codes "declined " ++ decimal 1
declined_text refusal.Capacity = codes "declined " ++ decimal 2
declined_text refusal.Program = codes "declined " ++ decimal 3
declined_text refusal.Data = codes "declined " ++ decimal 4
declined_text refusal.Stopped = codes "declined " ++ decimal 5
declined_text refusal.Running = codes "declined " ++ decimal 6
declined_text refusal.Register = codes "declined " ++ decimal 7
declined_text refusal.Counter = codes "declined " ++ decimal 8
declined_text refusal.Length = codes "declined " ++ decimal 9
declined_text refusal.Stretch = codes "declined " ++ decimal 10
declined_text refusal.Buffer = codes "declined " ++ decimal 11
declined_text refusal.ImageLength = codes "declined " ++ decimal 12
declined_text (refusal.ImageWord i) = codes "declined " ++ (decimal 13 ++ (codes " " ++ decimal i))
declined_text refusal.NotAnInstruction = codes "declined " ++ decimal 14

-- a call that was declined
abbrev pub refused_line : List ℕ → Refusal → List ℕ
refused_line name x = name ++ (codes " " ++ (declined_text x ++ codes "\n"))

-- a cycle: the retired and the issued counter, the hold or 0, and the cause or 0
abbrev pub record_text : CycleRecord → List ℕ
record_text r = cycle_text r ++ (codes " " ++ decimal (cause_or_0 r.cause))

-- the one cycle of a step
abbrev pub step_line : List ℕ → CycleRecord → List ℕ
step_line name r = name ++ (codes " " ++ (record_text r ++ codes "\n"))

-- a cycle of a run, by its number
abbrev pub cycle_line : ℕ → CycleRecord → List ℕ
cycle_line i r = codes "cycle " ++ (decimal i ++ (codes " " ++ (record_text r ++ codes "\n")))

-- a name and a number
abbrev pub count_line : List ℕ → ℕ → List ℕ
count_line name n = name ++ (codes " " ++ (decimal n ++ codes "\n"))

-- the cycles of a run, numbered from 1, and how many it had
abbrev pub run_lines : List ℕ → ℕ → List CycleRecord → List ℕ
run_lines name n rs = numbered cycle_line 1 rs ++ count_line name n

-- cause or 0, counter and count
abbrev pub report_line : List ℕ → Report → List ℕ
report_line name r = name ++ (codes " " ++ (report_text r ++ codes "\n"))

-- a word behind a space
abbrev pub spaced_word : ℕ → List ℕ
spaced_word w = codes " " ++ hex_word w

-- some words, each behind a space
abbrev pub words_text : List ℕ → List ℕ
words_text ws = flat_map spaced_word ws

-- a name and some words
abbrev pub words_line : List ℕ → List ℕ → List ℕ
words_line name ws = name ++ (words_text ws ++ codes "\n")

-- the lines of an answer to a call of that name; of a run its records, and of a call for the data these words
abbrev pub answer_lines : List ℕ → Answer → List CycleRecord → List ℕ → List ℕ
answer_lines name (answer.Stepped (Ok r)) rs ws = step_line name r
answer_lines name (answer.Stepped (Err x)) rs ws = refused_line name x
answer_lines name (answer.Ran (Ok n)) rs ws = run_lines name n rs
answer_lines name (answer.Ran (Err x)) rs ws = refused_line name x
answer_lines name (answer.Done (Ok u)) rs ws = ok_line name
answer_lines name (answer.Done (Err x)) rs ws = refused_line name x
answer_lines name (answer.Reported (Ok r)) rs ws = report_line name r
answer_lines name (answer.Reported (Err x)) rs ws = refused_line name x
answer_lines name (answer.Registers (Ok xs)) rs ws = words_line name xs
answer_lines name (answer.Registers (Err x)) rs ws = refused_line name x
answer_lines name (answer.Imaged (Ok xs)) rs ws = words_line name xs
answer_lines name (answer.Imaged (Err x)) rs ws = refused_line name x
answer_lines name (answer.Data n) rs ws = words_line name ws

-- the answer to a load
abbrev pub load_line : Result (Unit {0}) Refusal → List ℕ
load_line (Ok u) = ok_line (codes "load")
load_line (Err x) = refused_line (codes "load") x

-- a text that holds no script or no job, by its first bad line
abbrev pub input_line : ℕ → List ℕ
input_line n = count_line (codes "input") n

-- how many reports there were, and over all of them the instructions and the cycles
abbrev pub totals_line : ℕ → ℕ → ℕ → List ℕ
totals_line reports instructions cycles =
    codes "reports " ++ (decimal reports ++ (codes " instructions " ++ (decimal instructions ++ (codes " cycles " ++ (decimal cycles ++ codes "\n")))))

-- the two cores of the cradle
abbrev pub device_name : Device → List ℕ
device_name Scanner = codes "scanner"
device_name Spare = codes "spare"

-- why, where and after how many instructions and cycles a core of the cradle stopped
abbrev pub stop_line : Device → Report → ℕ → List ℕ
stop_line d r cycles =
    device_name d ++ (codes " stop " ++ (report_text r ++ (codes " cycles " ++ (decimal cycles ++ codes "\n"))))

-- the plain machine's instructions, and whether it agrees
abbrev pub plain_line : ℕ → Bool → List ℕ
plain_line n true = codes "plain " ++ (decimal n ++ codes " agrees\n")
plain_line n false = codes "plain " ++ (decimal n ++ codes " differs\n")
