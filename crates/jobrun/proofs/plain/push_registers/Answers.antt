use Rattle.std.proofs.Common.{string_bytes, refl, arith}
use Rattle.jobrun.specs.Runs.{register_line}
use Rattle.jobfile.proofs.Texts.{line_more}
use Rattle.jobrun.proofs.plain.push_registers.Goals as goal

pub loop-number-preserved : goal.loop-number-preserved
loop-number-preserved c =
    line_more register_line 0 c.loop-number.number c.loop-number.number c.args.registers.now 0 (string_bytes c.args.text.now) (string_bytes c.loop-number.text) (string_bytes c.push_register.new.text) c.loop-number-test.true (omega arith) c.loop-number.invariant (c.in_ok-push_register.ensures refl)
