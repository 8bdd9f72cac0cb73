use Rattle.std.proofs.Common.{vec_items, refl, ap, ◌∙◌}
use Rattle.pickcore.specs.Calls.{accepted, stopped_refusal, request_leaves, cut_leaves, amend_refusal, amend_leaves, take_up_refusal, take_up_leaves, resume_refusal, resume_leaves, report_answer}
use Rattle.pickcore.specs.Core.{machine_of}
use Rattle.precision.specs.Life.{cut, amend, resume, other}
use Rattle.jobs.specs.declared.call.Call.TheVariants as call
use Rattle.jobs.specs.declared.call.Answer.TheVariants as answer
use Rattle.jobs.specs.Play.{deed_unless, take_up_deed, image_of, registers_of, words_known}
use Rattle.jobs.proofs.Making.{simply, by_step, by_run, by_copy}
use Rattle.jobs.proofs.make.make.Goals as goal

pub returns-in-Step : goal.returns-in-Step
returns-in-Step g c =
    let m = machine_of g.S.Recovery.meaning c.args.core.now in
    by_step g.S.Recovery.MARK c.args.program.now (words_known c.args.last.now) c.args.records.now c.args.copies.now m c.args.data.now c.args.call.now c.step.result (machine_of g.S.Recovery.meaning c.step.new.self) c.step.new.data c.in-Step.is c.step.ensures.steps

pub returns-in-Run : goal.returns-in-Run
returns-in-Run g c =
    let m = machine_of g.S.Recovery.meaning c.args.core.now in
    by_run g.S.Recovery.MARK c.args.program.now (words_known c.args.last.now) c.args.records.now c.args.copies.now m c.args.data.now c.args.call.now c.in-Run.limit c.run.result c.run.new.records (machine_of g.S.Recovery.meaning c.run.new.core) c.run.new.data c.in-Run.is c.run.ensures

pub returns-in-Request : goal.returns-in-Request
returns-in-Request g c =
    let m = machine_of g.S.Recovery.meaning c.args.core.now in
    simply g.S.Recovery.MARK c.args.program.now (words_known c.args.last.now) c.args.records.now c.args.copies.now m c.args.data.now c.args.call.now (call.Request) (answer.Done c.request.result) (answer.Done (accepted (stopped_refusal m))) (other) (machine_of g.S.Recovery.meaning c.request.new.self) (request_leaves m) c.in-Request.is (ap answer.Done c.request.ensures.answer) c.request.ensures.leaves refl

pub returns-in-Cut : goal.returns-in-Cut
returns-in-Cut g c =
    let m = machine_of g.S.Recovery.meaning c.args.core.now in
    simply g.S.Recovery.MARK c.args.program.now (words_known c.args.last.now) c.args.records.now c.args.copies.now m c.args.data.now c.args.call.now (call.Cut) (answer.Done c.cut.result) (answer.Done (accepted (stopped_refusal m))) (deed_unless (stopped_refusal m) cut) (machine_of g.S.Recovery.meaning c.cut.new.self) (cut_leaves m) c.in-Cut.is (ap answer.Done c.cut.ensures.answer) c.cut.ensures.leaves refl

pub returns-in-Amend : goal.returns-in-Amend
returns-in-Amend g c =
    let m = machine_of g.S.Recovery.meaning c.args.core.now in
    simply g.S.Recovery.MARK c.args.program.now (words_known c.args.last.now) c.args.records.now c.args.copies.now m c.args.data.now c.args.call.now (call.Amend c.in-Amend.register c.in-Amend.word) (answer.Done c.amend.result) (answer.Done (accepted (amend_refusal m c.in-Amend.register))) (deed_unless (amend_refusal m c.in-Amend.register) (amend c.in-Amend.register c.in-Amend.word)) (machine_of g.S.Recovery.meaning c.amend.new.self) (amend_leaves m c.in-Amend.register c.in-Amend.word) c.in-Amend.is (ap answer.Done c.amend.ensures.answer) c.amend.ensures.leaves refl

pub returns-in-Resume : goal.returns-in-Resume
returns-in-Resume g c =
    let m = machine_of g.S.Recovery.meaning c.args.core.now in
    simply g.S.Recovery.MARK c.args.program.now (words_known c.args.last.now) c.args.records.now c.args.copies.now m c.args.data.now c.args.call.now (call.Resume c.in-Resume.counter) (answer.Done c.resume.result) (answer.Done (accepted (resume_refusal m c.in-Resume.counter))) (deed_unless (resume_refusal m c.in-Resume.counter) (resume c.in-Resume.counter)) (machine_of g.S.Recovery.meaning c.resume.new.self) (resume_leaves m c.in-Resume.counter) c.in-Resume.is (ap answer.Done c.resume.ensures.answer) c.resume.ensures.leaves refl

pub returns-in-TakeUpImage : goal.returns-in-TakeUpImage
returns-in-TakeUpImage g c =
    let m = machine_of g.S.Recovery.meaning c.args.core.now in
    simply g.S.Recovery.MARK c.args.program.now (words_known c.args.last.now) c.args.records.now c.args.copies.now m c.args.data.now c.args.call.now (call.TakeUpImage) (answer.Done c.take_up_last.result) (answer.Done (accepted (take_up_refusal m (words_known c.args.last.now)))) (take_up_deed m (words_known c.args.last.now)) (machine_of g.S.Recovery.meaning c.take_up_last.new.core) (take_up_leaves m (words_known c.args.last.now)) c.in-TakeUpImage.is (ap answer.Done c.take_up_last.ensures.answer) c.take_up_last.ensures.leaves refl

pub returns-in-TakeUp : goal.returns-in-TakeUp
returns-in-TakeUp g c =
    let m = machine_of g.S.Recovery.meaning c.args.core.now in
    simply g.S.Recovery.MARK c.args.program.now (words_known c.args.last.now) c.args.records.now c.args.copies.now m c.args.data.now c.args.call.now (call.TakeUp c.in-TakeUp.image) (answer.Done c.take_up.result) (answer.Done (accepted (take_up_refusal m (vec_items c.in-TakeUp.image)))) (take_up_deed m (vec_items c.in-TakeUp.image)) (machine_of g.S.Recovery.meaning c.take_up.new.self) (take_up_leaves m (vec_items c.in-TakeUp.image)) c.in-TakeUp.is (ap answer.Done (c.take_up.ensures.answer ∙ ap (λ ws. accepted (take_up_refusal m ws)) c.as_slice.ensures.value)) (c.take_up.ensures.leaves ∙ ap (take_up_leaves m) c.as_slice.ensures.value) refl

pub returns-in-Report : goal.returns-in-Report
returns-in-Report g c =
    let m = machine_of g.S.Recovery.meaning c.args.core.now in
    simply g.S.Recovery.MARK c.args.program.now (words_known c.args.last.now) c.args.records.now c.args.copies.now m c.args.data.now c.args.call.now call.Report (answer.Reported c.report.result) (answer.Reported (report_answer m)) other m m c.in-Report.is (ap answer.Reported c.report.ensures) refl refl

pub returns-in-Registers : goal.returns-in-Registers
returns-in-Registers g c =
    let m = machine_of g.S.Recovery.meaning c.args.core.now in
    simply g.S.Recovery.MARK c.args.program.now (words_known c.args.last.now) c.args.records.now c.args.copies.now m c.args.data.now c.args.call.now call.Registers (answer.Registers c.registers.result) (answer.Registers (registers_of g.S.Recovery.MARK m)) other m m c.in-Registers.is (ap answer.Registers c.registers.ensures) refl refl

pub returns-in-Image : goal.returns-in-Image
returns-in-Image g c =
    let m = machine_of g.S.Recovery.meaning c.args.core.now in
    simply g.S.Recovery.MARK c.args.program.now (words_known c.args.last.now) c.args.records.now c.args.copies.now m c.args.data.now c.args.call.now call.Image (answer.Imaged c.image.result) (answer.Imaged (image_of g.S.Recovery.MARK m)) other m m c.in-Image.is (ap answer.Imaged c.image.ensures.value) refl refl

pub returns-in-Data : goal.returns-in-Data
returns-in-Data g c =
    let m = machine_of g.S.Recovery.meaning c.args.core.now in
    by_copy g.S.Recovery.MARK c.args.program.now (words_known c.args.last.now) c.args.records.now c.args.copies.now m c.args.data.now c.args.call.now c.copy_words.result c.copy_words.new.words c.in-Data.is c.copy_words.ensures.answer c.copy_words.ensures.filled
