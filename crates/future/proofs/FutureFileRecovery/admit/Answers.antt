use Rattle.reorder.specs.Mean.{mean}
use Rattle.future.proofs.Keeps.{follows_admit}
use Rattle.future.proofs.FutureFileRecovery.admit.Goals as goal

pub invariant_of-self-clause-follows : goal.invariant_of-self-clause-follows
invariant_of-self-clause-follows c = follows_admit c.args.self.now.newest (mean c.args.self.now.buffer) (mean c.admit.new.self) c.args.counter c.args.destination c.admit.ensures.tag c.admit.ensures.leaves c.args.self.now.follows
