use Rattle.std.proofs.Common.{ap, ◌∙◌}
use Rattle.reorder.specs.Mean.{mean}
use Rattle.future.specs.Current.{written}
use Rattle.future.proofs.Keeps.{follows_deliver}
use Rattle.future.proofs.FutureFileRecovery.deliver.Goals as goal

pub invariant_of-self-clause-follows : goal.invariant_of-self-clause-follows
invariant_of-self-clause-follows c =
    follows_deliver c.args.self.now.buffer c.args.self.now.newest c.write_result.new.file (mean c.deliver.new.self) c.args.tag c.args.outcome c.ranges.tag.fits
    (c.write_result.ensures ∙ ap (λ o. written c.args.self.now.newest o c.args.outcome) c.taker-taker.ensures) c.deliver.ensures.leaves c.args.self.now.follows
