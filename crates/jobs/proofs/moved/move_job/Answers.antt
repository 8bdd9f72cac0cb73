use Rattle.std.proofs.Common.{◌≡◌, ℕ, refl, ap, ◌∙◌, arith, rules}
use Rattle.std.proofs.lemmas.Result.{err_from_is_err_and}
use Rattle.pickcore.specs.Calls.{accepted}
use Rattle.pickcore.specs.Core.{machine_of}
use Rattle.jobs.proofs.Moving.{refused_by, accepted_all, take_up_none, resume_none, never_declined, moved_on}
use Rattle.jobs.proofs.moved.move_job.Goals as goal

pub returns-in_err-load : goal.returns-in_err-load
returns-in_err-load g c =
    let same = c.in_err-load.ensures.same refl in
    let p = err_from_is_err_and c.from_residual-in_err-load.result c.from_residual-in_err-load.ensures.1 in
    rw (p.1, p.2) (record {
      moving = (refused_by g.A.Recovery.MARK g.B.Recovery.MARK c.args.program.now c.args.delays c.args.capacity (machine_of g.A.Recovery.meaning c.args.scanner.now) (machine_of g.B.Recovery.meaning c.args.spare.now) c.args.data.now c.in_ok-report.report c.in-Ok.image c.new-setup.result c.in_ok-report.ensures c.in-Ok.ensures.value (c.in-Ok.ensures.reads refl) (search rules) c.new-setup.ensures c.in_err-load.field-0.0 c.in_err-load.ensures.answer, ap (machine_of g.B.Recovery.meaning) same, refl, refl);
      same = λ _. same;
    })

pub unreachable-requires-in_default-take_up : goal.unreachable-requires-in_default-take_up
unreachable-requires-in_default-take_up g c = c.in_default-take_up.not-Ok tt (c.take_up.ensures.answer ∙ ap accepted (take_up_none g.A.Recovery.MARK g.B.Recovery.MARK c.args.program.now c.args.delays c.args.capacity (machine_of g.A.Recovery.meaning c.args.scanner.now) (machine_of g.B.Recovery.meaning c.args.spare.now) c.args.data.now c.in_ok-report.report c.in-Ok.image c.new-setup.result c.in_ok-report.ensures c.in-Ok.ensures.value (c.in-Ok.ensures.reads refl) (search rules) c.new-setup.ensures tt c.in_ok-load.ensures.answer (machine_of g.B.Recovery.meaning c.load.new.self) c.load.ensures.leaves c.load.new.self.units))

pub unreachable-requires-in_default-resume : goal.unreachable-requires-in_default-resume
unreachable-requires-in_default-resume g c = c.in_default-resume.not-Ok tt (c.resume.ensures.answer ∙ ap accepted (resume_none g.A.Recovery.MARK g.B.Recovery.MARK c.args.program.now c.args.delays c.args.capacity (machine_of g.A.Recovery.meaning c.args.scanner.now) (machine_of g.B.Recovery.meaning c.args.spare.now) c.args.data.now c.in_ok-report.report c.in-Ok.image c.new-setup.result c.in_ok-report.ensures c.in-Ok.ensures.value (c.in-Ok.ensures.reads refl) (search rules) c.new-setup.ensures tt c.in_ok-load.ensures.answer (machine_of g.B.Recovery.meaning c.load.new.self) c.load.ensures.leaves c.load.new.self.units (machine_of g.B.Recovery.meaning c.take_up.new.self) c.take_up.ensures.leaves))

pub unreachable-requires-in_default-run : goal.unreachable-requires-in_default-run
unreachable-requires-in_default-run g c = never_declined g.A.Recovery.MARK g.B.Recovery.MARK c.args.program.now c.args.delays c.args.capacity (machine_of g.A.Recovery.meaning c.args.scanner.now) (machine_of g.B.Recovery.meaning c.args.spare.now) c.args.data.now c.in_ok-report.report c.in-Ok.image c.new-setup.result c.in_ok-report.ensures c.in-Ok.ensures.value (c.in-Ok.ensures.reads refl) (search rules) c.new-setup.ensures tt c.in_ok-load.ensures.answer (machine_of g.B.Recovery.meaning c.load.new.self) c.load.ensures.leaves c.load.new.self.units (machine_of g.B.Recovery.meaning c.take_up.new.self) c.take_up.ensures.leaves (machine_of g.B.Recovery.meaning c.resume.new.self) c.resume.ensures.leaves c.args.records.now c.run.result c.run.new.records (machine_of g.B.Recovery.meaning c.run.new.self) c.run.new.data c.run.ensures.runs c.in_default-run.not-Ok

pub returns : goal.returns
returns g c = record {
  moving = (accepted_all g.A.Recovery.MARK g.B.Recovery.MARK c.args.program.now c.args.delays c.args.capacity (machine_of g.A.Recovery.meaning c.args.scanner.now) (machine_of g.B.Recovery.meaning c.args.spare.now) c.args.data.now c.in_ok-report.report c.in-Ok.image c.new-setup.result c.in_ok-report.ensures c.in-Ok.ensures.value (c.in-Ok.ensures.reads refl) (search rules) c.new-setup.ensures tt c.in_ok-load.ensures.answer (machine_of g.B.Recovery.meaning c.load.new.self) c.load.ensures.leaves c.load.new.self.units, moved_on g.A.Recovery.MARK g.B.Recovery.MARK c.args.program.now c.args.delays c.args.capacity (machine_of g.A.Recovery.meaning c.args.scanner.now) (machine_of g.B.Recovery.meaning c.args.spare.now) c.args.data.now c.in_ok-report.report c.in-Ok.image c.new-setup.result c.in_ok-report.ensures c.in-Ok.ensures.value (c.in-Ok.ensures.reads refl) (search rules) c.new-setup.ensures tt c.in_ok-load.ensures.answer (machine_of g.B.Recovery.meaning c.load.new.self) c.load.ensures.leaves c.load.new.self.units (machine_of g.B.Recovery.meaning c.take_up.new.self) c.take_up.ensures.leaves (machine_of g.B.Recovery.meaning c.resume.new.self) c.resume.ensures.leaves c.args.records.now c.run.result c.run.new.records (machine_of g.B.Recovery.meaning c.run.new.self) c.run.new.data c.run.ensures.runs c.in-Ok-run.cycles c.in-Ok-run.is (machine_of g.B.Recovery.meaning c.cut.new.self) c.cut.ensures.leaves);
  same = λ e. let z : ◌≡◌ {A = ℕ} 0 1 = cc in absurd (omega arith);
}
