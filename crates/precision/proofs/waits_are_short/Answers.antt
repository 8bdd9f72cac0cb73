use Rattle.precision.proofs.waits_are_short.Goals as goal
use Rattle.precision.proofs.Places.{within_none}
use Rattle.precision.proofs.Waits.{waits_are_short}

pub returns : goal.returns
returns c = record { starts = λ longest. within_none longest 16; cycles = waits_are_short }
