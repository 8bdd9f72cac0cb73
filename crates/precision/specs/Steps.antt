-- The plain machine over some instructions in a row.
use Rattle.std.specs.Prelude.{ℕ, zero, suc, Ok, Err, Result}
use Rattle.isa.specs.declared.fault.Fault.{Fault}
use Rattle.isa.specs.Table.{Instr}
use Rattle.isa.specs.Plain.{Plain, executed}

-- one step more, by the instruction at the counter, unless there was a fault
abbrev pub one_more : (ℕ → Instr) → Result Plain Fault → Result Plain Fault
one_more code (Ok p) = executed (code p.counter) p
one_more code (Err f) = Err f

-- n steps in a row: the state that they end in, or the first fault
abbrev pub steps : (ℕ → Instr) → ℕ → Plain → Result Plain Fault
steps code zero p = Ok p
steps code (suc n) p = one_more code (steps code n p)
