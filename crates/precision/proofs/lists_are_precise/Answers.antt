use Rattle.precision.proofs.lists_are_precise.Goals as goal
use Rattle.precision.proofs.Lists.{steps_agree, cuts_agree, never_stands_still, runs_are_steps}

pub returns : goal.returns
returns c = record { steps = steps_agree; cuts = cuts_agree; moves = never_stands_still; runs = runs_are_steps }
