use Rattle.pickcore.specs.Model.{pipe_of, setting}
use Rattle.pickcore.proofs.Cycles.{front_requested, front_issues}
use Rattle.pickcore.proofs.pipeline.Pipeline.front.Goals as goal

pub returns-then-requested : goal.returns-then-requested
returns-then-requested g c =
    front_requested (setting g.S.Recovery.MARK c.args.delays.now c.args.program.now) c.args.requested (pipe_of g.S.Recovery.meaning c.args.self.now) c.args.data.now
    c.drain.result (pipe_of g.S.Recovery.meaning c.drain.new.self) c.if-requested.true c.drain.ensures

pub returns : goal.returns
returns g c =
    front_issues (setting g.S.Recovery.MARK c.args.delays.now c.args.program.now) c.args.requested (pipe_of g.S.Recovery.meaning c.args.self.now) c.args.data.now
    c.issue.result (record { ending = c.issue.result; pipe = pipe_of g.S.Recovery.meaning c.issue.new.self; words = c.issue.new.data }) c.if-requested.false c.issue.ensures
