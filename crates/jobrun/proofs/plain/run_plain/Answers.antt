use Rattle.std.proofs.Common.{◌≡◌, ◌++◌, string_bytes, codes, decimal, refl, ap, ◌∙◌, append_assoc}
use Rattle.isa.specs.Plain.{Outcome, ran, at_zero}
use Rattle.isa.specs.State.{plain_of}
use Rattle.jobfile.specs.Lines.{numbered}
use Rattle.jobrun.specs.Runs.{register_line, end_line, plain_lines}
use Rattle.jobfile.proofs.Texts.{push_then}
use Rattle.jobrun.proofs.plain.run_plain.Goals as goal

pub returns : goal.returns
returns c =
    let ends = end_line c.run-steps.result.1 c.run-steps.new.self.counter in
    let regs = numbered register_line 0 c.run-steps.new.self.registers in
    let n = c.run-steps.result.0 in
    let out : Outcome = record { taken = c.run-steps.result.0; last = plain_of c.run-steps.new.self c.run-steps.new.data; fault = c.run-steps.result.1 } in
    let all : out ≡ ran c.args.program.now c.args.most (at_zero c.args.data.now) = c.run-steps.ensures ∙ ap (ran c.args.program.now c.args.most) (c.new-machine.ensures c.args.data.now) in
    push_then (string_bytes c.in_ok-text.text) (string_bytes c.push_end.new.text) (string_bytes c.push_registers.new.text) ends regs (c.in_ok-push_end.ensures refl) (c.in_ok-push_registers.ensures refl)
    ∙ (ap (λ x. x ++ (ends ++ regs)) c.in_ok-text.ensures.ok
    ∙ (ap (λ x. codes "steps " ++ x) (append_assoc (decimal n) (codes "\n") (ends ++ regs)) ∙ ap plain_lines all))
