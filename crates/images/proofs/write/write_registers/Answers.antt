use Rattle.std.proofs.Common.{◌≡◌, ◌*◌, ◌^◌, ◌<◌, ◌++◌, get_or, take, drop, ap, ◌∙◌, subst, arith}
use Rattle.std.specs.List.{AllByRecursion}
use Rattle.std.proofs.lemmas.Nat.{and_mask}
use Rattle.std.proofs.lemmas.List.{take_all}
use Rattle.std.proofs.ByRecursion.{All-more}
use Rattle.images.specs.Words.{word_of}
use Rattle.images.specs.Image.{register_words}
use Rattle.images.proofs.Places.{next_register}
use Rattle.images.proofs.write.write_registers.Goals as goal

pub loop-register-preserved : goal.loop-register-preserved
loop-register-preserved c = (
  next_register c.args.registers.now c.args.buffer.now c.loop-register.buffer c.loop-register.register c.word_of.result c.word_of-in-loop-register.result
      c.loop-register.invariant.0 (omega arith) (omega arith) (c.word_of.ensures ∙ ap (word_of 1 c.loop-register.register) (and_mask (get_or c.args.registers.now c.loop-register.register 0) 16)) c.word_of-in-loop-register.ensures,
  All-more (λ x. x < 2 ^ 32) c.args.registers.now c.loop-register.register 0 c.loop-register-test.true c.loop-register.invariant.1 (omega (arith, c.type_inv.registers c.loop-register.register)),
)

pub returns : goal.returns
returns c =
    let r = c.loop-register.register in
    let t : take r c.args.registers.now ≡ c.args.registers.now = take_all r c.args.registers.now c.loop-register-test.false in
    let n : 2 * r ≡ 32 = omega arith in
    record {
      words = c.loop-register.invariant.0 ∙ (ap (λ xs. register_words 0 xs ++ drop (2 * r) c.args.buffer.now) t ∙ ap (λ m. register_words 0 c.args.registers.now ++ drop m c.args.buffer.now) n);
      fit = subst (λ xs. AllByRecursion (λ x. x < 2 ^ 32) xs) t c.loop-register.invariant.1;
    }
