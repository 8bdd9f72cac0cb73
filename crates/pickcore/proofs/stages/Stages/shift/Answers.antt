use Rattle.std.proofs.Common.{None}
use Rattle.pickcore.proofs.Shift.{shift_end}
use Rattle.pickcore.proofs.stages.Stages.shift.Goals as goal

pub returns : goal.returns
returns c = shift_end 15 c.args.self.now.slots c.rotate_left.new.self None c.args.self.now.sixteen c.rotate_left.ensures.after
