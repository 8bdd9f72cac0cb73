use Rattle.std.proofs.Common.{◌≡◌, ◌+◌, length, get_or, take, sym, ap, ◌∙◌, arith}
use Rattle.std.proofs.lemmas.List.{take_all, take_more, length-take-le}
use Rattle.recovery.specs.Meaning.{place_leaves}
use Rattle.pickcore.specs.Calls.{placed_from}
use Rattle.pickcore.proofs.Taking.{placed_more}
use Rattle.pickcore.proofs.calls.place_registers.Goals as goal

pub loop-register-preserved : goal.loop-register-preserved
loop-register-preserved g c =
    let m = g.S.Recovery.meaning c.args.scheme.now in
    let ws = c.args.words.now in
    let r = c.loop-register.register in
    let n : 0 + length (take r ws) ≡ r = let l = length-take-le r ws (omega arith) in omega arith in
    c.place.ensures.leaves
    ∙ (ap (λ y. place_leaves y r (get_or ws r 0)) c.loop-register.invariant
    ∙ sym (ap (placed_from m 0) (take_more ws r 0 (omega arith)) ∙ (placed_more m 0 (take r ws) (get_or ws r 0) ∙ ap (λ k. place_leaves (placed_from m 0 (take r ws)) k (get_or ws r 0)) n)))

pub returns : goal.returns
returns g c = c.loop-register.invariant ∙ ap (placed_from (g.S.Recovery.meaning c.args.scheme.now) 0) (take_all c.loop-register.register c.args.words.now (omega arith))
