use Rattle.std.proofs.Common.{◌∙◌, arith, ltb-false, ltb-true}
use Rattle.images.proofs.Fronts.{next_read, none_left}
use Rattle.images.proofs.read.+read_registers.Goals as goal

pub returns-in_default : goal.returns-in_default
returns-in_default t c =
    none_left c.args.words.now c.args.registers.now c.args.register (omega (arith, ltb-true, ltb-false)) c.requires.1 c.requires.0

pub returns-in_ok-registers-in-len2-up : goal.returns-in_ok-registers-in-len2-up
returns-in_ok-registers-in-len2-up t c =
    c.read_registers.ensures
    ∙ next_read c.args.words.now c.args.registers.now c.args.register c.in_ok-registers-in-len2-up.field-0 (omega (arith, ltb-false)) (omega (arith, ltb-false)) c.in_ok-registers-in-len2-up.ensures
