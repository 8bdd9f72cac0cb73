use Rattle.std.proofs.Common.{◌≡◌, ℕ, ◌+◌, Bool, false, Some, sym, refl, ap, ◌∙◌, arith}
use Rattle.std.proofs.lemmas.Result.{err_from_is_err_and}
use Rattle.pickcore.specs.Calls.{Machine, goes_on, after_ending}
use Rattle.pickcore.specs.Core.{machine_of}
use Rattle.pickcore.specs.Model.{pipe_of}
use Rattle.pickcore.proofs.Sounds.{steps_sound}
use Rattle.pickcore.proofs.Stepping.{step_refused, step_taken, accepted_none, declined_some, still_going}
use Rattle.pickcore.proofs.state.Core.step.Goals as goal

pub returns-in_err-may_step : goal.returns-in_err-may_step
returns-in_err-may_step g c =
    let p = err_from_is_err_and c.from_residual.result c.from_residual.ensures.1 in
    rw (p.1, p.2) (record {
      steps = step_refused g.S.Recovery.MARK (machine_of g.S.Recovery.meaning c.args.self.now) c.args.program.now c.args.data.now c.in_err-may_step.field-0.0 (declined_some _ _ c.in_err-may_step.ensures);
      same = λ _. refl;
    })

pub returns-in-Stopped : goal.returns-in-Stopped
returns-in-Stopped g c =
    let marked : Bool → Machine = λ b. record { pipe = pipe_of g.S.Recovery.meaning c.cycle-retired.new.self; delays = c.args.self.now.delays; program_length = c.args.self.now.program_length; data_length = c.args.self.now.data_length; cycles = c.args.self.now.cycles + 1; running = false; requested = b; cause = Some c.in-Stopped.cause } in
    let st = step_taken g.S.Recovery.MARK (machine_of g.S.Recovery.meaning c.args.self.now) c.args.program.now c.args.data.now
    c.cycle-retired.result.0 c.cycle-retired.result.1 (pipe_of g.S.Recovery.meaning c.cycle-retired.new.self) c.cycle-retired.new.data c.new-record.result
    (marked c.still_marked-self.result)
    (accepted_none _ tt c.in_ok-may_step.ensures) c.cycle-retired.ensures.retired c.cycle-retired.ensures.turn c.new-record.ensures
    (ap marked c.still_marked-self.ensures ∙ ap (after_ending (machine_of g.S.Recovery.meaning c.args.self.now) (pipe_of g.S.Recovery.meaning c.cycle-retired.new.self)) (sym c.in-Stopped.is)) in
    record { steps = st; same = λ h. let z : ◌≡◌ {A = ℕ} 0 1 = cc in absurd (omega arith) }

pub invariant_of-self : goal.invariant_of-self
invariant_of-self g c =
    let marked : Bool → Machine = λ b. record { pipe = pipe_of g.S.Recovery.meaning c.cycle-retired.new.self; delays = c.args.self.now.delays; program_length = c.args.self.now.program_length; data_length = c.args.self.now.data_length; cycles = c.args.self.now.cycles + 1; running = false; requested = b; cause = Some c.in-Stopped.cause } in
    let st = step_taken g.S.Recovery.MARK (machine_of g.S.Recovery.meaning c.args.self.now) c.args.program.now c.args.data.now
    c.cycle-retired.result.0 c.cycle-retired.result.1 (pipe_of g.S.Recovery.meaning c.cycle-retired.new.self) c.cycle-retired.new.data c.new-record.result
    (marked c.still_marked-self.result)
    (accepted_none _ tt c.in_ok-may_step.ensures) c.cycle-retired.ensures.retired c.cycle-retired.ensures.turn c.new-record.ensures
    (ap marked c.still_marked-self.ensures ∙ ap (after_ending (machine_of g.S.Recovery.meaning c.args.self.now) (pipe_of g.S.Recovery.meaning c.cycle-retired.new.self)) (sym c.in-Stopped.is)) in
    record { units = c.args.self.now.units; sound = steps_sound _ _ _ _ _ st c.args.self.now.sound }

pub returns-in_default : goal.returns-in_default
returns-in_default g c =
    let st = step_taken g.S.Recovery.MARK (machine_of g.S.Recovery.meaning c.args.self.now) c.args.program.now c.args.data.now
    c.cycle-retired.result.0 c.cycle-retired.result.1 (pipe_of g.S.Recovery.meaning c.cycle-retired.new.self) c.cycle-retired.new.data c.new-record.result
    (goes_on (machine_of g.S.Recovery.meaning c.args.self.now) (pipe_of g.S.Recovery.meaning c.cycle-retired.new.self))
    (accepted_none _ tt c.in_ok-may_step.ensures) c.cycle-retired.ensures.retired c.cycle-retired.ensures.turn c.new-record.ensures
    (sym (still_going (machine_of g.S.Recovery.meaning c.args.self.now) (pipe_of g.S.Recovery.meaning c.cycle-retired.new.self) c.cycle-retired.result.1 c.in_default.not-Stopped)) in
    record { steps = st; same = λ h. let z : ◌≡◌ {A = ℕ} 0 1 = cc in absurd (omega arith) }

pub invariant_of-self-in_default : goal.invariant_of-self-in_default
invariant_of-self-in_default g c =
    let st = step_taken g.S.Recovery.MARK (machine_of g.S.Recovery.meaning c.args.self.now) c.args.program.now c.args.data.now
    c.cycle-retired.result.0 c.cycle-retired.result.1 (pipe_of g.S.Recovery.meaning c.cycle-retired.new.self) c.cycle-retired.new.data c.new-record.result
    (goes_on (machine_of g.S.Recovery.meaning c.args.self.now) (pipe_of g.S.Recovery.meaning c.cycle-retired.new.self))
    (accepted_none _ tt c.in_ok-may_step.ensures) c.cycle-retired.ensures.retired c.cycle-retired.ensures.turn c.new-record.ensures
    (sym (still_going (machine_of g.S.Recovery.meaning c.args.self.now) (pipe_of g.S.Recovery.meaning c.cycle-retired.new.self) c.cycle-retired.result.1 c.in_default.not-Stopped)) in
    record { units = c.args.self.now.units; sound = steps_sound _ _ _ _ _ st c.args.self.now.sound }
