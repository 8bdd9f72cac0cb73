-- What the values of the code hold.
use Rattle.std.specs.Prelude.{◌≡◌, ℕ, ⊤, List, map, Some, None, Ok, Err, vec_items, Option, Result, Vec}
use Rattle.std.specs.declared.alloc.Global.{Global}
use Rattle.jobs.specs.declared.call.Call.{Call}
use Rattle.jobs.specs.declared.call.Call.TheVariants as call
use Rattle.jobfile.specs.declared.setting.Setting.{Setting}
use Rattle.script.specs.declared.cradle.Move.{Move}
use Rattle.script.specs.declared.desk.Script.{Script}
use Rattle.script.specs.declared.error.ReadError.{ReadError}
use Rattle.script.specs.declared.error.ReadError.TheVariants as error
use Rattle.script.specs.declared.reader.Line.{Line}
use Rattle.script.specs.declared.reader.Reader.{Reader}
use Rattle.script.specs.Tokens.{lines_of, words_in}
use Rattle.script.specs.Found.{Found}
use Rattle.script.specs.Calls as calls
use Rattle.script.specs.Calls.{Asked}
use Rattle.script.specs.Scripts.{Scripted, SettingOf, Moved}

-- what line n says, and what was read of it: where memory suffices, that, or the line's number where it does not say it
abbrev pub Says : {A B : Type 0} → (A → B) → ℕ → Option B → Result A ReadError → Type 0
Says told n said (Ok x) = said ≡ Some (told x)
Says told n said (Err (error.Line m)) = (said ≡ None) × (m ≡ n)
Says told n said (Err error.OutOfMemory) = ⊤

-- what a text holds, or the number of its first line that is not right, and what was read of it: that, where memory suffices
abbrev pub Reads : {A B : Type 0} → (A → B) → Result B ℕ → Result A ReadError → Type 0
Reads told holds (Ok x) = Ok (told x) ≡ holds
Reads told holds (Err (error.Line n)) = Err n ≡ holds
Reads told holds (Err error.OutOfMemory) = ⊤

-- a line that was found, and where the text goes on: its number and words, and the number and the lines behind it
abbrev pub found : Line → Reader → Found
found l after = record { number = l.number; words = words_in l.code.now; next = after.number; rest = lines_of after.rest.now }

-- what a call asks for
abbrev pub asked : Call → Asked
asked call.Step = calls.step
asked (call.Run n) = calls.run n
asked call.Request = calls.request
asked call.Cut = calls.cut
asked (call.Amend r w) = calls.amend r w
asked (call.TakeUp v) = calls.take_up (vec_items v)
asked call.TakeUpImage = calls.take_up_image
asked (call.Resume n) = calls.resume n
asked call.Report = calls.report
asked call.Registers = calls.registers
asked call.Image = calls.image
asked call.Data = calls.data_words

-- what some calls ask for
abbrev pub all_asked : Vec Call Global → List Asked
all_asked v = map asked (vec_items v)

-- a script
abbrev pub scripted : Script → Scripted
scripted s = record { scheme = s.setting.scheme; delays = s.setting.delays; capacity = s.setting.capacity; program = vec_items s.program; words = vec_items s.«data»; calls = map asked (vec_items s.calls) }

-- a core's setting
abbrev pub setting : Setting → SettingOf
setting s = record { scheme = s.scheme; delays = s.delays; capacity = s.capacity }

-- a job of the cradle
abbrev pub moved : Move → Moved
moved m = record { scanner = setting m.scanner; spare = setting m.spare; program = vec_items m.program; words = vec_items m.«data»; interrupt = m.interrupt }
