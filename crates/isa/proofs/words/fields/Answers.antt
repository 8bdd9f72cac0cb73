use Rattle.std.proofs.Common.{◌/◌}
use Rattle.std.proofs.lemmas.Nat.{and_mask}
use Rattle.isa.proofs.words.fields.Goals as goal

pub returns : goal.returns
returns c =
    let w = c.args.word in
    cc (and_mask (w / 16777216) 4, and_mask (w / 1048576) 4, and_mask (w / 65536) 4, and_mask w 16)
