use Rattle.std.proofs.Common.{◌∙◌, arith}
use Rattle.std.proofs.lemmas.List.{length-take-le}
use Rattle.pickcore.specs.Core.{machine_of}
use Rattle.jobs.proofs.Filling.{ran_into}
use Rattle.jobs.proofs.make.run.Goals as goal

pub returns : goal.returns
returns g c =
    ran_into g.S.Recovery.MARK c.args.program.now c.args.records.now c.args.limit c.min-most.result (machine_of g.S.Recovery.meaning c.args.core.now) c.args.data.now c.run.result c.run.new.records (machine_of g.S.Recovery.meaning c.run.new.self) c.run.new.data
    (omega arith) (c.run.auto.records ∙ length-take-le c.min-most.result c.args.records.now (omega arith)) c.run.ensures.runs
