use Rattle.std.proofs.Common.{length}
use Rattle.images.proofs.read.+read_registers.Given as goal

abbrev pub decreases-read_registers : goal.decreases-read_registers
decreases-read_registers l = length l.words.now
