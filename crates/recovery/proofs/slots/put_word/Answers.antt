use Rattle.std.proofs.Common.{rules}
use Rattle.std.proofs.lemmas.List.{set_past}
use Rattle.recovery.proofs.slots.put_word.Goals as goal

pub returns-else-register-lt16 : goal.returns-else-register-lt16
returns-else-register-lt16 c = search (rules, set_past)
