-- What history records mean: the file with old words put back, youngest first.
use Rattle.std.specs.Prelude.{ℕ, Bool, true, false, cond, not, ◌&&◌, ◌||◌, List, [], ◌∷◌, Some, None, Ok, Err, Option, Result, nat_lt, slice_index}
use Rattle.isa.specs.declared.fault.Fault.{Fault}
use Rattle.recovery.specs.declared.Status.{Status}
use Rattle.recovery.specs.declared.Status.TheVariants.{Pending, Done, Faulted}
use Rattle.recovery.specs.Search.{or_else}
use Rattle.recovery.specs.Meaning.{is_register, put}
use Rattle.recovery.specs.declared.slots.Slot.{Slot}
use Rattle.history.specs.declared.buffer.HistoryRecord.{HistoryRecord}
use Rattle.history.specs.declared.buffer.Progress.{Progress}
use Rattle.history.specs.declared.buffer.Progress.TheVariants.{Waiting, Finished, Failed}

-- whether a record names a register
abbrev pub record_names : HistoryRecord → ℕ → Bool
record_names x r = is_register x.destination r

-- the progress of the youngest record that names a register
abbrev pub newest_progress : ℕ → List HistoryRecord → Option Progress
newest_progress r [] = None
newest_progress r (x ∷ xs) = or_else (newest_progress r xs) (cond (record_names x r) (Some x.progress) None)

-- the file once a record's old word is put back
abbrev pub undo : HistoryRecord → List ℕ → List ℕ
undo x ws = put ws x.destination x.old

-- the file once all old words are put back, the youngest record's first
abbrev pub unwind : List HistoryRecord → List ℕ → List ℕ
unwind [] ws = ws
unwind (x ∷ xs) ws = undo x (unwind xs ws)

-- the word of a destination, if any
abbrev pub word_at : List ℕ → Option ℕ → ℕ
word_at ws None = 0
word_at ws (Some r) = slice_index ws r

-- the status of a record, by the word that its destination has
abbrev pub status_of : Progress → ℕ → Status
status_of Waiting w = Pending
status_of Finished w = Done w
status_of (Failed f) w = Faulted f

-- a record as an entry without its tag, where all younger records are unwound
abbrev pub slot_of : HistoryRecord → List ℕ → Slot
slot_of x ws = record { counter = x.counter; destination = x.destination; status = status_of x.progress (word_at ws x.destination) }

-- the word of a record is its destination's before any younger record wrote
abbrev pub slots_of : List HistoryRecord → List ℕ → List Slot
slots_of [] ws = []
slots_of (x ∷ xs) ws = slot_of x (unwind xs ws) ∷ slots_of xs ws

-- whether some record names a register
abbrev pub named : ℕ → List HistoryRecord → Bool
named r [] = false
named r (x ∷ xs) = is_register x.destination r || named r xs

-- a record that waits has a destination, which no younger one names
abbrev pub clear : Progress → Option ℕ → List HistoryRecord → Bool
clear Waiting None xs = false
clear Waiting (Some r) xs = nat_lt r 16 && not (named r xs)
clear Finished d xs = true
clear (Failed f) d xs = true

-- each record is clear of those younger than it
abbrev pub guarded : List HistoryRecord → Bool
guarded [] = true
guarded (x ∷ xs) = clear x.progress x.destination xs && guarded xs

-- an instruction without a destination has nothing to wait for
abbrev pub first_progress : Option ℕ → Progress
first_progress None = Finished
first_progress (Some r) = Waiting

-- the record of an instruction that is just admitted
abbrev pub new_record : List ℕ → ℕ → Option ℕ → HistoryRecord
new_record ws c d = record { counter = c; destination = d; old = word_at ws d; progress = first_progress d }

-- the progress that a result makes
abbrev pub progress_by : Result ℕ Fault → Progress
progress_by (Ok w) = Finished
progress_by (Err f) = Failed f

-- the file that a result leaves
abbrev pub file_after : List ℕ → Option ℕ → Result ℕ Fault → List ℕ
file_after ws d (Ok w) = put ws d w
file_after ws d (Err f) = ws
