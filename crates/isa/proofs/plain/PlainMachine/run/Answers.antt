use Rattle.std.proofs.Common.{arith}
use Rattle.isa.specs.Plain.{ran}
use Rattle.isa.specs.State.{plain_of}
use Rattle.isa.proofs.Counted.{ran_more, ran_fault, ran_all}
use Rattle.isa.proofs.plain.PlainMachine.run.Goals as goal

pub loop-taken-preserved : goal.loop-taken-preserved
loop-taken-preserved c = ran_more c.args.program.now (plain_of c.loop-taken.self c.loop-taken.data) (plain_of c.step.new.self c.step.new.data) c.step.ensures.leaves c.loop-taken.taken c.args.most (ran c.args.program.now c.args.most (plain_of c.args.self.now c.args.data.now)) c.loop-taken-test.true c.in_default.ensures.answer c.loop-taken.invariant

pub returns : goal.returns
returns c = ran_all c.args.program.now (plain_of c.loop-taken.self c.loop-taken.data) c.loop-taken.taken c.args.most (ran c.args.program.now c.args.most (plain_of c.args.self.now c.args.data.now)) (omega arith) c.loop-taken.invariant

pub returns-in-Err : goal.returns-in-Err
returns-in-Err c = ran_fault c.args.program.now (plain_of c.loop-taken.self c.loop-taken.data) (plain_of c.step.new.self c.step.new.data) c.step.ensures.leaves c.in-Err.fault c.loop-taken.taken c.args.most (ran c.args.program.now c.args.most (plain_of c.args.self.now c.args.data.now)) c.loop-taken-test.true c.in-Err.ensures.answer c.loop-taken.invariant
