-- The plain machine of the code, with the data words that it is lent.
use Rattle.std.specs.Prelude.{ℕ, List}
use Rattle.isa.specs.declared.plain.PlainMachine.{PlainMachine}
use Rattle.isa.specs.Plain.{Plain}

abbrev pub plain_of : PlainMachine → List ℕ → Plain
plain_of m ws = record { registers = m.registers; words = ws; counter = m.counter }
