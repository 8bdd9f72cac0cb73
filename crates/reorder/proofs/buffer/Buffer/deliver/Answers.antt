use Rattle.std.proofs.Common.{rules}
use Rattle.reorder.specs.Steps.{untaken, delivers}
use Rattle.reorder.proofs.buffer.Buffer.deliver.Goals as goal

pub returns-in_default : goal.returns-in_default
returns-in_default c =
    let r = untaken c.args.self.now c.args.tag c.args.outcome c.ranges.tag.fits (search rules) in
    record { answer = r.0; leaves = r.1 }

pub returns : goal.returns
returns c =
    let r = delivers c.args.self.now c.args.tag c.in-Some.slot c.args.outcome c.from-status.result _ c.ranges.tag.fits (search rules) (search rules) (search rules) in
    record { answer = r.0; leaves = r.1 }
