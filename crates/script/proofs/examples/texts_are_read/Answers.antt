use Rattle.std.proofs.Common.{refl}
use Rattle.script.proofs.examples.texts_are_read.Goals as goal

pub returns : goal.returns
returns c = (
  (refl, refl, refl, refl, refl, refl, refl, refl, refl),
  (refl, refl, refl, refl, refl, refl, refl),
  (refl, refl, refl),
)
