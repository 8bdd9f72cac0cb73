-- The record of a cycle, and the number of every hold.
use Rattle.std.specs.Prelude.{ℕ, Some, None, Ok, Err, Option, Result}
use Rattle.recovery.specs.declared.AdmitError.{AdmitError}
use Rattle.recovery.specs.declared.AdmitError.TheVariants.{Awaited, Full}
use Rattle.pickcore.specs.declared.record.Hold.{Hold}
use Rattle.pickcore.specs.declared.record.Hold.TheVariants as hold
use Rattle.pickcore.specs.declared.record.Ending.{Ending}
use Rattle.pickcore.specs.declared.record.Ending.TheVariants.{Issued, Stored, Held, Stopped}
use Rattle.pickcore.specs.declared.record.CycleRecord.{CycleRecord}

-- why the next instruction did not issue
abbrev pub hold_number : Hold → ℕ
hold_number hold.Request = 1
hold_number hold.Flight = 2
hold_number hold.Source = 3
hold_number hold.Stage = 4
hold_number hold.Destination = 5
hold_number hold.Capacity = 6

-- a hold, or 0 where there is none
abbrev pub hold_or_0 : Option Hold → ℕ
hold_or_0 None = 0
hold_or_0 (Some h) = hold_number h

-- the hold of an instruction that the scheme does not admit
abbrev pub hold_of : AdmitError → Hold
hold_of Awaited = hold.Destination
hold_of Full = hold.Capacity

-- the ending by an instruction that issues at a counter, or is held
abbrev pub issued_or_held : Result ℕ Hold → Ending
issued_or_held (Ok c) = Issued c
issued_or_held (Err h) = Held h

-- the record of a cycle, by what retired and how the cycle ended
abbrev pub record_of : Option ℕ → Ending → CycleRecord
record_of retired (Issued c) = record { retired = retired; issued = Some c; hold = None; cause = None }
record_of retired (Stored c) = record { retired = retired; issued = Some c; hold = None; cause = None }
record_of retired (Held h) = record { retired = retired; issued = None; hold = Some h; cause = None }
record_of retired (Stopped c) = record { retired = retired; issued = None; hold = None; cause = Some c }
