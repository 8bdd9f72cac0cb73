use Rattle.reorder.specs.Mean.{mean}
use Rattle.future.proofs.Keeps.{follows_look}
use Rattle.future.proofs.FutureFileRecovery.look.Goals as goal

pub returns : goal.returns
returns c = follows_look c.args.self.now.newest (mean c.args.self.now.buffer) c.args.register c.args.self.now.buffer.sixteen c.if-awaits.ensures c.args.self.now.follows
