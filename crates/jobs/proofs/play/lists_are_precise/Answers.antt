use Rattle.jobs.proofs.Living.{lists_are_precise}
use Rattle.jobs.proofs.play.lists_are_precise.Goals as goal

pub returns : goal.returns
returns c = lists_are_precise
