use Rattle.std.proofs.Common.{◌∙◌}
use Rattle.jobs.proofs.Filling.{take_lesser, drop_lesser}
use Rattle.deskrun.proofs.desk.parts.Goals as goal

pub returns : goal.returns
returns g c = record {
  front = c.split_at.ensures.front ∙ take_lesser c.args.list.now c.args.many c.min.result c.min.ensures;
  back = c.split_at.ensures.back ∙ drop_lesser c.args.list.now c.args.many c.min.result c.min.ensures;
}
