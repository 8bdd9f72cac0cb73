use Rattle.std.proofs.Common.{arith}
use Rattle.pickcore.specs.Core.{machine_of}
use Rattle.pickcore.proofs.Running.{so_none, so_more}
use Rattle.pickcore.proofs.state.Core.fill.Goals as goal

pub loop-done-init : goal.loop-done-init
loop-done-init g c = so_none _ _ _ _ _

pub loop-done-preserved : goal.loop-done-preserved
loop-done-preserved g c =
    so_more g.S.Recovery.MARK c.args.program.now (machine_of g.S.Recovery.meaning c.args.self.now) c.args.data.now c.args.records.now
    c.loop-done.done c.loop-done.records (machine_of g.S.Recovery.meaning c.loop-done.self) (machine_of g.S.Recovery.meaning c.step.new.self) c.loop-done.data c.step.new.data c.in-Ok.record
    (omega (arith, c.loop-done.invariant.long)) c.loop-done.invariant c.in-Ok.ensures.steps
