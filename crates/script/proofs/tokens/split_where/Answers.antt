use Rattle.std.proofs.Common.{◌≡◌, true, false, take, drop, sym, ap, ◌∙◌, rules}
use borrow.Author.Tests.{tests}
use Rattle.std.proofs.lemmas.Iterator.{IsFirst-from_position, YieldsList-from_slice}
use Rattle.script.proofs.Scans.{split_first}
use Rattle.script.proofs.tokens.split_where.Goals as goal

pub returns : goal.returns
returns g c = λ stop computes.
    let first =
    IsFirst-from_position _ _ c.position-front.result (λ b. stop b ≡ true) (λ b. stop b ≡ false) c.position-front.ensures.ran (YieldsList-from_slice c.args.bytes.now cc)
    (λ x q k. sym (computes x.now true (search (rules, tests)))) (λ x q k. (search (rules, tests), sym (computes x.now false (search (rules, tests))))) in
    let split = split_first stop c.args.bytes.now c.position-front.result first in
    (c.split_at.ensures.front ∙ (ap (λ n. take n c.args.bytes.now) c.unwrap_or.ensures ∙ split.0), c.split_at.ensures.back ∙ (ap (λ n. drop n c.args.bytes.now) c.unwrap_or.ensures ∙ split.1))
