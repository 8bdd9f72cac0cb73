use Rattle.std.proofs.Common.{Ok, sym, ap, ◌∙◌}
use Rattle.pickcore.specs.Model.{pipe_of, setting}
use Rattle.pickcore.proofs.Cycles.{cycle_nothing, cycle_settled, cycle_faulted}
use Rattle.pickcore.proofs.pipeline.Pipeline.cycle.Goals as goal

pub returns-in-Ok-None : goal.returns-in-Ok-None
returns-in-Ok-None g c =
    cycle_nothing (setting g.S.Recovery.MARK c.args.delays.now c.args.program.now) c.args.requested (pipe_of g.S.Recovery.meaning c.args.self.now) c.args.data.now
    (pipe_of g.S.Recovery.meaning c.deliver_first.new.self) (g.S.Recovery.meaning c.retire.new.self) c.shift.new.self.slots c.deliver_first.ensures c.shift.ensures c.retire.ensures.leaves
    c.front.result (record { ending = c.front.result; pipe = pipe_of g.S.Recovery.meaning c.front.new.self; words = c.front.new.data })
    (ap Ok (sym c.in-Ok-None.field-0-is) ∙ c.in-Ok-None.ensures.answer) c.front.ensures

pub returns-in-Ok-Some : goal.returns-in-Ok-Some
returns-in-Ok-Some g c =
    cycle_settled (setting g.S.Recovery.MARK c.args.delays.now c.args.program.now) c.args.requested (pipe_of g.S.Recovery.meaning c.args.self.now) c.args.data.now
    (pipe_of g.S.Recovery.meaning c.deliver_first.new.self) (g.S.Recovery.meaning c.retire.new.self) c.shift.new.self.slots c.deliver_first.ensures c.shift.ensures c.retire.ensures.leaves
    c.in-Ok-Some.counter c.front-in-Ok-Some.result (record { ending = c.front-in-Ok-Some.result; pipe = pipe_of g.S.Recovery.meaning c.front-in-Ok-Some.new.self; words = c.front-in-Ok-Some.new.data })
    (ap Ok (sym c.in-Ok-Some.field-0-is) ∙ c.in-Ok-Some.ensures.answer) c.front-in-Ok-Some.ensures

pub returns-in-Err : goal.returns-in-Err
returns-in-Err g c =
    cycle_faulted (setting g.S.Recovery.MARK c.args.delays.now c.args.program.now) c.args.requested (pipe_of g.S.Recovery.meaning c.args.self.now) c.args.data.now
    (pipe_of g.S.Recovery.meaning c.deliver_first.new.self) (g.S.Recovery.meaning c.retire.new.self) c.shift.new.self.slots c.deliver_first.ensures c.shift.ensures c.retire.ensures.leaves
    c.in-Err.field-0.counter c.in-Err.field-0.fault (pipe_of g.S.Recovery.meaning c.empty.new.self)
    c.in-Err.ensures.answer c.empty.ensures
