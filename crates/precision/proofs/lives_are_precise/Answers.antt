use Rattle.precision.proofs.lives_are_precise.Goals as goal
use Rattle.precision.proofs.Lives.{lives_are_precise, stopped_cores_agree}

pub returns : goal.returns
returns c = record { reports = lives_are_precise; stopped = stopped_cores_agree }
