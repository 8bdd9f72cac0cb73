-- What a run is set to: delays that the stages have room for, and instructions that name sixteen registers.
use Rattle.std.specs.Prelude.{ℕ, ◌<◌, ◌≤◌, max, List, [], ◌∷◌}
use Rattle.isa.specs.declared.unit.ExecUnit.{ExecUnit}
use Rattle.isa.specs.Table.{Instr, halt, store, work, jump}
use Rattle.pickcore.specs.Cycle.{Setting}

-- every unit's delay is from 1 to the longest one, which is at most 16
pub record Fit (s : Setting) (longest : ℕ) : Type 0 where
  pub least : (u : ExecUnit) → 1 ≤ s.delay u
  pub most : (u : ExecUnit) → s.delay u ≤ longest
  pub short : longest ≤ 16

-- the longest of some delays
abbrev pub longest_of : List ℕ → ℕ
longest_of [] = 0
longest_of (d ∷ ds) = max d (longest_of ds)

-- these are registers
abbrev pub Registers : List ℕ → Type 0
Registers [] = Unit {0}
Registers (r ∷ rs) = (r < 16) × Registers rs

-- an instruction reads registers only, and gives its result to one
abbrev pub Named : Instr → Type 0
Named (halt f) = Unit {0}
Named (store rs f) = Registers rs
Named (work u d rs f) = (d < 16) × Registers rs
Named (jump rs f) = Registers rs

-- so does the instruction at every counter
abbrev pub Sane : Setting → Type 0
Sane s = (n : ℕ) → Named (s.code n)
