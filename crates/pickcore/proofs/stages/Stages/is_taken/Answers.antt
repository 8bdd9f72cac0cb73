use Rattle.std.proofs.Common.{◌-◌, ◌≤◌, length, is_some, None, sym, ap, ◌∙◌, arith}
use Rattle.std.proofs.lemmas.List.{get_or_past}
use Rattle.std.proofs.lemmas.Bool.{le-ltb}
use Rattle.pickcore.proofs.stages.Stages.is_taken.Goals as goal

pub returns-else-at-lt16 : goal.returns-else-at-lt16
returns-else-at-lt16 c =
    let h : length c.args.self.now.slots ≤ c.args.delay - 1 = omega arith in
    le-ltb c.saturating_sub-at.result 16 (omega arith)
    ∙ sym (ap is_some (get_or_past c.args.self.now.slots (c.args.delay - 1) None h))
