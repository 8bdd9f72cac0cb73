use Rattle.images.proofs.Ruled.{first_bad_word}
use Rattle.images.proofs.images_keep_rules.Goals as goal

pub returns : goal.returns
returns c = first_bad_word
