use Rattle.std.proofs.Common.{◌≡◌, ◌-◌}
use Rattle.isa.specs.Plain.{ran}
use Rattle.isa.specs.State.{plain_of}
use Rattle.isa.proofs.Counted.{plus}
use Rattle.isa.proofs.plain.PlainMachine.run.Given as goal

-- the steps that are left, and those that are taken, make the whole
abbrev pub invariant-loop-taken : goal.invariant-loop-taken
invariant-loop-taken l = plus l.taken (ran l.program (l.most - l.taken) (plain_of l.self l.data)) ≡ ran l.program l.most (plain_of l.initial.self l.initial.data)
