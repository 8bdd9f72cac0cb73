use Rattle.std.proofs.Common.{get_or}
use Rattle.isa.proofs.Fields.{fields_small}
use Rattle.isa.proofs.fetch.fetch.Goals as goal

pub returns-in-Ok-clause-registers : goal.returns-in-Ok-clause-registers
returns-in-Ok-clause-registers c = fields_small (get_or c.args.program.now c.args.counter 0) c.in-Ok.word c.in-Ok.ensures
