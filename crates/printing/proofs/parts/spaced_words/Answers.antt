use Rattle.std.proofs.Common.{sym, subst, ◌∙◌, arith, rules}
use Rattle.std.specs.Str.{IsUtf8}
use Rattle.printing.proofs.Words.{words_are_text, one_more, room_is_text}
use Rattle.printing.proofs.parts.spaced_words.Goals as goal

pub loop-at-preserved : goal.loop-at-preserved
loop-at-preserved c = (
  search rules,
  one_more c.loop-at.room c.args.words.now c.spaced_hex.result c.loop-at.at (omega (arith, c.loop-at.invariant.0)) c.loop-at-test.true c.spaced_hex.ensures c.loop-at.invariant.1,
)

pub unreachable-requires : goal.unreachable-requires
unreachable-requires c =
    let ws = c.args.words.now in
    let all = room_is_text c.loop-at.room ws c.loop-at.at c.loop-at-test.false c.loop-at.auto.at-end c.loop-at.invariant.1 in
    c.in_default.ensures.cases.0 (subst IsUtf8 (sym (c.as_flattened.ensures.value ∙ all)) (words_are_text ws))
