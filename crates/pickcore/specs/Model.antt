-- The core of the code, by its scheme's meaning.
use Rattle.std.specs.Prelude.{ℕ, List, Some, None, Option, slice_index}
use Rattle.isa.specs.Numbers.{unit_number}
use Rattle.isa.specs.Table.{first, second, fetched}
use Rattle.recovery.specs.declared.Timing.{Timing}
use Rattle.recovery.specs.Meaning.{Meaning}
use Rattle.pickcore.specs.declared.pipeline.Pipeline.{Pipeline}
use Rattle.pickcore.specs.Cycle.{Pipe, Setting}

abbrev pub pipe_of : {X : Type 0} → (X → Meaning) → Pipeline X → Pipe
pipe_of meaning p = record { scheme = meaning p.scheme; stages = p.stages.slots; next = p.next; count = p.count }

-- the words of up to two sources, as the code has them
abbrev pub operands : Option (List ℕ) → Option (ℕ × ℕ)
operands None = None
operands (Some xs) = Some (first xs, second xs)

-- the setting of a run: a list of delays, one for each unit, and a program
abbrev pub setting : Timing → List ℕ → List ℕ → Setting
setting timing delays program = record { timing = timing; delay = λ u. slice_index delays (unit_number u); code = fetched program }
