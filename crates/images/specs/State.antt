-- The state of the code, as a plain record.
use Rattle.std.specs.Prelude.{Ok, Err, Result}
use Rattle.isa.specs.declared.refusal.Refusal.{Refusal}
use Rattle.images.specs.declared.state.State.{State}
use Rattle.images.specs.Image.{Snapshot}

abbrev pub snapshot_of : State → Snapshot
snapshot_of s = record { registers = s.registers; counter = s.counter; cause = s.cause; count = s.count }

-- what a reading answers
abbrev pub snapshots : Result State Refusal → Result Snapshot Refusal
snapshots (Ok s) = Ok (snapshot_of s)
snapshots (Err e) = Err e
