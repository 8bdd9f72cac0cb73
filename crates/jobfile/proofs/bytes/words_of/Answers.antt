use Rattle.std.proofs.Common.{◌≡◌, ◌/◌, map, length, IfOk, rules, ◌∙◌}
use Rattle.std.proofs.lemmas.Result.{IfOk-weaker}
use Rattle.std.specs.Int.{from_le_bytes}
use Rattle.std.specs.Simd.{first_chunks}
use mir.Syntax.{w32}
use Rattle.jobfile.proofs.There.{chunks_are_words}
use Rattle.jobfile.proofs.bytes.words_of.Goals as goal

pub returns : goal.returns
returns c =
    let h : IfOk c.collect.result (λ v. v.items ≡ map (λ w. from_le_bytes w32 w) (first_chunks 4 (length c.args.bytes.now / 4) c.args.bytes.now)) = search rules in
    IfOk-weaker c.collect.result _ _ (λ v e. e ∙ chunks_are_words c.args.bytes.now) h
