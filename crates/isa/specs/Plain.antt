-- The plain machine: one instruction at a time.
use Rattle.std.specs.Prelude.{ℕ, zero, suc, ◌+◌, List, [], ◌∷◌, replicate, Ok, Err, Result, slice_index, slice_set}
use Rattle.isa.specs.declared.fault.Fault.{Fault}
use Rattle.isa.specs.Table.{Instr, halt, store, work, jump, fetched}

-- sixteen registers, the data words and the counter
pub record Plain : Type 0 where
  pub registers : List ℕ
  pub words : List ℕ
  pub counter : ℕ

-- the words of some registers
abbrev pub reads : List ℕ → List ℕ → List ℕ
reads xs [] = []
reads xs (r ∷ rs) = slice_index xs r ∷ reads xs rs

abbrev pub worked : Plain → ℕ → Result ℕ Fault → Result Plain Fault
worked p d (Ok w) = Ok (record { registers = slice_set p.registers d w; words = p.words; counter = p.counter + 1 })
worked p d (Err f) = Err f

abbrev pub written : Plain → Result (List ℕ) Fault → Result Plain Fault
written p (Ok ws) = Ok (record { registers = p.registers; words = ws; counter = p.counter + 1 })
written p (Err f) = Err f

-- what an instruction does to the plain machine: the next state, or a fault
abbrev pub executed : Instr → Plain → Result Plain Fault
executed (halt f) p = Err f
executed (store rs f) p = written p (f (reads p.registers rs) p.words)
executed (work u d rs f) p = worked p d (f (reads p.registers rs) p.words)
executed (jump rs f) p = Ok (record { registers = p.registers; words = p.words; counter = f (reads p.registers rs) p.counter })

-- one step of the program
abbrev pub stepped : List ℕ → Plain → Result Plain Fault
stepped program p = executed (fetched program p.counter) p

-- at most so many steps, up to the first with a fault: how many were taken, the last state, and the fault, if any
pub record Outcome : Type 0 where
  pub taken : ℕ
  pub last : Plain
  pub fault : Result (Unit {0}) Fault

abbrev pub one_more : Outcome → Outcome
one_more o = record { taken = o.taken + 1; last = o.last; fault = o.fault }

abbrev pub go_on : Plain → (Plain → Outcome) → Result Plain Fault → Outcome
go_on p rest (Ok q) = one_more (rest q)
go_on p rest (Err f) = record { taken = 0; last = p; fault = Err f }

abbrev pub ran : List ℕ → ℕ → Plain → Outcome
ran program zero p = record { taken = 0; last = p; fault = Ok tt }
ran program (suc k) p = go_on p (ran program k) (stepped program p)

-- all zero, with these data words
abbrev pub at_zero : List ℕ → Plain
at_zero ws = record { registers = replicate 16 0; words = ws; counter = 0 }
