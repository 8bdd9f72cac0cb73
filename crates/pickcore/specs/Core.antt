-- The core of the code, by its scheme's meaning.
use Rattle.recovery.specs.Meaning.{Meaning}
use Rattle.recovery.specs.declared.Recovery.{Ghosts}
use Rattle.pickcore.specs.declared.state.Core.{Core}
use Rattle.pickcore.specs.Calls.{Machine}
use Rattle.pickcore.specs.Model.{pipe_of}

abbrev pub machine_of : {X : Type 0} {g : Ghosts X} → (X → Meaning) → Core X g → Machine
machine_of meaning c = record { pipe = pipe_of meaning c.pipe; delays = c.delays; program_length = c.program_length; data_length = c.data_length; cycles = c.cycles; running = c.running; requested = c.requested; cause = c.cause }
