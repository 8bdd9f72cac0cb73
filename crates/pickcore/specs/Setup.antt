-- What a core is loaded with for a program and its data words.
use Rattle.std.specs.Prelude.{ℕ, min, List, length}
use Rattle.pickcore.specs.declared.setup.Setup.{Setup}

-- a length past 32 bits counts as the most of them
abbrev pub setup_for : List ℕ → ℕ → List ℕ → List ℕ → Setup
setup_for delays capacity program ws = record { delays = delays; capacity = capacity; program_length = min (length program) 4294967295; data_length = min (length ws) 4294967295 }
