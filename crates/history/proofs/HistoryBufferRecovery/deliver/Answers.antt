use Rattle.std.proofs.Common.{ap, ◌∙◌, rules}
use Rattle.history.specs.Unwind.{guarded}
use Rattle.history.specs.Steps.{place_of, delivers_past, delivers_again, delivers, guarded_then}
use Rattle.history.proofs.HistoryBufferRecovery.deliver.Goals as goal

pub returns-in_default : goal.returns-in_default
returns-in_default c =
    let r = delivers_past c.args.self.now c.args.tag c.args.outcome c.ranges.tag.fits (search rules) in
    record { answer = r.0; leaves = r.1 }

pub returns-then-ne : goal.returns-then-ne
returns-then-ne c =
    let r = delivers_again c.args.self.now c.args.tag c.args.outcome c.in-Some.record c.ranges.tag.fits (search rules) (search rules) in
    record { answer = r.0; leaves = r.1 }

pub returns : goal.returns
returns c =
    let r = delivers c.args.self.now c.args.tag c.args.outcome c.in-Some.record c.store-progress.result c.store-progress.new.file _ c.ranges.tag.fits (search rules) (search rules) c.store-progress.ensures.answer c.store-progress.ensures.leaves (search rules) in
    record { answer = r.0; leaves = r.1 }

pub invariant_of-self-clause-undisturbed : goal.invariant_of-self-clause-undisturbed
invariant_of-self-clause-undisturbed c =
    ap guarded c.replace.ensures.entries
    ∙ guarded_then c.args.self.now (place_of c.args.self.now c.args.tag) c.args.outcome c.in-Some.record c.store-progress.result (search rules) c.store-progress.ensures.answer
