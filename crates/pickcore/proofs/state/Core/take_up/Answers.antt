use Rattle.std.proofs.Common.{◌≡◌, ℕ, cond, Some, Ok, Result, sym, ap, ◌∙◌, subst, arith, rules}
use Rattle.std.specs.Result.{result_err}
use Rattle.isa.specs.declared.refusal.Refusal.{Refusal}
use Rattle.isa.specs.declared.refusal.Refusal.TheVariants as refusal
use Rattle.recovery.specs.Meaning.{Meaning}
use Rattle.images.specs.Image.{Snapshot, image_words, read_words}
use Rattle.images.specs.State.{snapshot_of}
use Rattle.images.proofs.Trip.{read_then_write}
use Rattle.pickcore.specs.Calls.{accepted, taken_up, take_up_by, between}
use Rattle.pickcore.specs.Core.{machine_of}
use Rattle.pickcore.specs.Sound.{Sound}
use Rattle.pickcore.proofs.Taking.{taken_holds, taken_sound}
use Rattle.pickcore.proofs.state.Core.take_up.Goals as goal

pub returns : goal.returns
returns g c =
    let core = c.args.self.now in
    let m = machine_of g.S.Recovery.meaning core in
    let image = c.args.image.now in
    let s = snapshot_of c.in_ok-state.state in
    let off = c.if-self.false in
    let read : read_words image ≡ Ok s = sym c.in_ok-state.ensures in
    let is : taken_up (machine_of g.S.Recovery.meaning core) s ≡ record { pipe = record { scheme = g.S.Recovery.meaning c.place_registers.new.scheme; stages = core.pipe.stages.slots; next = s.counter; count = s.count }; delays = core.delays; program_length = core.program_length; data_length = core.data_length; cycles = core.cycles; running = core.running; requested = core.requested; cause = s.cause } =
    ap (λ (y : Meaning). record { pipe = record { scheme = y; stages = core.pipe.stages.slots; next = s.counter; count = s.count }; delays = core.delays; program_length = core.program_length; data_length = core.data_length; cycles = core.cycles; running = core.running; requested = core.requested; cause = s.cause }) (sym c.place_registers.ensures) in
    record {
      answer = sym (ap (λ b. accepted (cond b (Some refusal.Running) (result_err (read_words image)))) off ∙ ap (λ (r : Result Snapshot Refusal). accepted (result_err r)) read);
      leaves = sym is ∙ sym (ap (λ b. cond b m (take_up_by m (read_words image))) off ∙ ap (take_up_by m) read);
      same = λ e. let z : ◌≡◌ {A = ℕ} 0 1 = cc in absurd (omega arith);
      held = λ _. read ∙ ap Ok (sym (taken_holds m s core.sound off c.in_ok-state.state.sixteen) ∙ ap between is);
      again = λ _. ap image_words (ap between (sym is) ∙ taken_holds m s core.sound off c.in_ok-state.state.sixteen) ∙ read_then_write image s read;
    }

pub invariant_of-self : goal.invariant_of-self
invariant_of-self g c =
    let core = c.args.self.now in
    let m = machine_of g.S.Recovery.meaning core in
    let image = c.args.image.now in
    let s = snapshot_of c.in_ok-state.state in
    let off = c.if-self.false in
    let read : read_words image ≡ Ok s = sym c.in_ok-state.ensures in
    let is : taken_up (machine_of g.S.Recovery.meaning core) s ≡ record { pipe = record { scheme = g.S.Recovery.meaning c.place_registers.new.scheme; stages = core.pipe.stages.slots; next = s.counter; count = s.count }; delays = core.delays; program_length = core.program_length; data_length = core.data_length; cycles = core.cycles; running = core.running; requested = core.requested; cause = s.cause } =
    ap (λ (y : Meaning). record { pipe = record { scheme = y; stages = core.pipe.stages.slots; next = s.counter; count = s.count }; delays = core.delays; program_length = core.program_length; data_length = core.data_length; cycles = core.cycles; running = core.running; requested = core.requested; cause = s.cause }) (sym c.place_registers.ensures) in
    record { units = core.units; sound = subst Sound is (taken_sound m s core.sound off c.in_ok-state.state.sixteen (search rules) c.in_ok-state.state.counted) }
