use Rattle.std.proofs.Common.{◌+◌, ◌*◌, ◌^◌, ◌≤◌, get_or, sym, refl, ap, ◌∙◌, arith}
use Rattle.std.specs.Char.{digit_value}
use Rattle.std.proofs.lemmas.Bool.{eqb-false}
use Rattle.script.proofs.Values.{numeral_is, digit_more, digit_large, digit_none, digits_all}
use Rattle.script.proofs.numeral.numeral_value.Goals as goal

pub loop-byte-init : goal.loop-byte-init
loop-byte-init c = (omega arith, sym (numeral_is c.args.base c.args.digits.now (omega (arith, eqb-false _ _ (sym c.if-is_empty.ensures)))))

pub returns-in_err-digit : goal.returns-in_err-digit
returns-in_err-digit c =
    let value = ap digit_value c.from.ensures in
    let none = c.in_err-digit.ensures.value in
    let large : c.args.base ≤ digit_value (get_or c.args.digits.now c.loop-byte.byte-index 0) = omega arith in
    c.from_residual.ensures ∙ (digit_none c.args.base c.loop-byte.value c.loop-byte.byte-index _ c.args.digits.now refl c.loop-byte-test.true large ∙ c.loop-byte.invariant.1)

pub returns-in_err-checked_mul : goal.returns-in_err-checked_mul
returns-in_err-checked_mul c =
    let digit = c.in_ok-digit.ensures.value in
    let large : 2 ^ 32 ≤ c.loop-byte.value * c.args.base + c.in_ok-digit.digit = omega (arith, c.in_err-checked_mul.ensures) in
    c.from_residual-in_err-checked_mul.ensures
    ∙ (digit_large c.args.base c.loop-byte.value c.loop-byte.byte-index c.in_ok-digit.digit c.args.digits.now (digit.1 ∙ ap digit_value c.from.ensures) c.loop-byte-test.true (omega arith) (omega arith) large
    ∙ c.loop-byte.invariant.1)

pub returns-in_err-value : goal.returns-in_err-value
returns-in_err-value c =
    let digit = c.in_ok-digit.ensures.value in
    let large : 2 ^ 32 ≤ c.loop-byte.value * c.args.base + c.in_ok-digit.digit = omega (arith, c.in_err-value.ensures, c.in_ok-checked_mul.ensures.1) in
    c.from_residual-in_err-value.ensures
    ∙ (digit_large c.args.base c.loop-byte.value c.loop-byte.byte-index c.in_ok-digit.digit c.args.digits.now (digit.1 ∙ ap digit_value c.from.ensures) c.loop-byte-test.true (omega arith) (omega arith) large
    ∙ c.loop-byte.invariant.1)

pub loop-byte-preserved : goal.loop-byte-preserved
loop-byte-preserved c =
    let digit = c.in_ok-digit.ensures.value in (
      omega (arith, c.in_ok-value.ensures.0, c.in_ok-value.ensures.1),
      digit_more c.args.base c.loop-byte.value c.loop-byte.byte-index c.in_ok-digit.digit c.args.digits.now (digit.1 ∙ ap digit_value c.from.ensures) c.loop-byte-test.true c.in_ok-value.value (omega arith)
          (c.in_ok-value.ensures.1 ∙ ap (λ x. x + c.in_ok-digit.digit) c.in_ok-checked_mul.ensures.1)
          ∙ c.loop-byte.invariant.1,
    )

pub returns : goal.returns
returns c = digits_all c.args.base c.loop-byte.value c.loop-byte.byte-index c.args.digits.now c.loop-byte-test.false c.loop-byte.invariant.0 ∙ c.loop-byte.invariant.1
