use Rattle.std.proofs.Common.{◌-◌, ◌≤◌, length, Some, sym, arith}
use Rattle.std.proofs.lemmas.List.{set_past}
use Rattle.pickcore.proofs.stages.Stages.enter.Goals as goal

pub returns-else-at-lt16 : goal.returns-else-at-lt16
returns-else-at-lt16 c =
    let h : length c.args.self.now.slots ≤ c.args.delay - 1 = omega arith in
    sym (set_past c.args.self.now.slots (c.args.delay - 1) (Some c.args.stage) h)
