-- Answers and the lines that are printed for them.
use Rattle.std.specs.Prelude.{◌≡◌, true, [], ◌∷◌, Some, None, Ok, Err, codes}
use Rattle.isa.specs.declared.fault.Cause.TheVariants as cause
use Rattle.isa.specs.declared.refusal.Refusal.TheVariants as refusal
use Rattle.pickcore.specs.declared.record.Hold.TheVariants as hold
use Rattle.pickcore.specs.declared.record.CycleRecord.{CycleRecord}
use Rattle.pickcore.specs.declared.record.Report.{Report}
use Rattle.jobs.specs.declared.call.Call.TheVariants as call
use Rattle.jobs.specs.declared.call.Answer.TheVariants as answer
use Rattle.printing.specs.declared.device.Device.TheVariants.{Spare}
use Rattle.printing.specs.Lines.{call_name, answer_lines, load_line, input_line, totals_line, stop_line, plain_line}

-- two cycles and a report
abbrev held : CycleRecord
held = record { retired = Some 3; issued = None; hold = Some hold.Source; cause = None }

abbrev stopped : CycleRecord
stopped = record { retired = None; issued = None; hold = None; cause = Some cause.Request }

abbrev report : Report
report = record { cause = Some cause.Cut; counter = 12; count = 40 }

-- an answer of every kind, and the lines around the answers
abbrev pub LinesArePrinted : Type 0
LinesArePrinted =
    (answer_lines (call_name (call.Resume 70000)) (answer.Done (Err refusal.Counter)) [] [] ≡ codes "resume declined 8\n")
    × (answer_lines (call_name call.Cut) (answer.Done (Ok tt)) [] [] ≡ codes "cut ok\n")
    × (answer_lines (call_name call.Step) (answer.Stepped (Ok held)) [] [] ≡ codes "step 3 - 3 0\n")
    × (answer_lines (call_name (call.Run 9)) (answer.Ran (Ok 2)) (held ∷ (stopped ∷ [])) [] ≡ codes "cycle 1 3 - 3 0\ncycle 2 - - 0 7\nrun 2\n")
    × (answer_lines (call_name call.Report) (answer.Reported (Ok report)) [] [] ≡ codes "report 8 12 40\n")
    × (answer_lines (call_name call.TakeUpImage) (answer.Done (Err (refusal.ImageWord 35))) [] [] ≡ codes "take-up declined 13 35\n")
    × (answer_lines (call_name call.Registers) (answer.Registers (Err refusal.Running)) [] [] ≡ codes "registers declined 6\n")
    × (answer_lines (call_name call.Data) (answer.Data 1) [] (175 ∷ []) ≡ codes "data 0x000000af\n")
    × (load_line (Err refusal.Program) ≡ codes "load declined 3\n")
    × (input_line 7 ≡ codes "input 7\n")
    × (totals_line 2 31 90 ≡ codes "reports 2 instructions 31 cycles 90\n")
    × (stop_line Spare report 99 ≡ codes "spare stop 8 12 40 cycles 99\n")
    × (plain_line 71 true ≡ codes "plain 71 agrees\n")
