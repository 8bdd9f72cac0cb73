-- The instruction table: what an instruction reads, where it is computed, and what comes of it.
use Rattle.std.specs.Prelude.{ℕ, ◌+◌, ◌-◌, ◌*◌, ◌/◌, ◌%◌, ◌^◌, Bool, false, cond, not, ◌&&◌, List, [], ◌∷◌, length, ℤ, pos, ◌+ℤ◌, ◌-ℤ◌, Some, None, Ok, Err, Option, Result, ◌==◌, bit_xor, int_le, nat_lt, slice_index, slice_set}
use Rattle.isa.specs.declared.words.Kind.{Kind}
use Rattle.isa.specs.declared.words.Kind.TheVariants.{Stop, Set, Add, Subtract, ExclusiveOr, Multiply, Divide, CheckedAdd, Load, Store, BranchEqual, BranchUnequal}
use Rattle.isa.specs.declared.fault.Fault.{Fault}
use Rattle.isa.specs.declared.fault.Fault.TheVariants as fault
use Rattle.isa.specs.declared.refusal.Refusal.{Refusal}
use Rattle.isa.specs.declared.unit.ExecUnit.{ExecUnit}
use Rattle.isa.specs.declared.unit.ExecUnit.TheVariants as unit
use Rattle.isa.specs.Words.{decoded}

-- An instruction by what it does. `halt` has a fault. `store` reads registers and writes the data words. `work` reads
-- registers and data words and computes, on a unit, the word of a register. `jump` reads registers and the counter and
-- gives the next counter.
pub data Instr : Type 0 where
  halt : Fault → Instr
  store : List ℕ → (List ℕ → List ℕ → Result (List ℕ) Fault) → Instr
  work : ExecUnit → ℕ → List ℕ → (List ℕ → List ℕ → Result ℕ Fault) → Instr
  jump : List ℕ → (List ℕ → ℕ → ℕ) → Instr

-- of something that may have a fault: whether it has, and its value, or the old one where it has
abbrev pub verdict : {A : Type 0} → Result A Fault → Result (Unit {0}) Fault
verdict (Ok x) = Ok tt
verdict (Err f) = Err f

abbrev pub value_or : {A : Type 0} → A → Result A Fault → A
value_or old (Ok x) = x
value_or old (Err f) = old

-- the value of a word in two's complement
abbrev pub signed : ℕ → ℤ
signed x = cond (nat_lt x (2 ^ 31)) (pos x) (pos x -ℤ pos (2 ^ 32))

-- the sum of the two values leaves -2,147,483,648 to 2,147,483,647
abbrev pub overflows : ℕ → ℕ → Bool
overflows x y = not (int_le (pos 0 -ℤ pos (2 ^ 31)) (signed x +ℤ signed y) && int_le (signed x +ℤ signed y) (pos (2 ^ 31 - 1)))

-- the index of the data word at a base and an offset, where there are so many words
abbrev pub reached : ℕ → ℕ → ℕ → Option ℕ
reached base offset many = cond (nat_lt ((base + offset) % 2 ^ 32) many) (Some ((base + offset) % 2 ^ 32)) None

abbrev pub word_at : List ℕ → Option ℕ → Result ℕ Fault
word_at ws (Some i) = Ok (slice_index ws i)
word_at ws None = Err fault.Address

abbrev pub with_word : List ℕ → Option ℕ → ℕ → Result (List ℕ) Fault
with_word ws (Some i) w = Ok (slice_set ws i w)
with_word ws None w = Err fault.Address

-- the data word that a load gives, and the data words that a store leaves
abbrev pub loaded : List ℕ → ℕ → ℕ → Result ℕ Fault
loaded ws base offset = word_at ws (reached base offset (length ws))

abbrev pub stored : List ℕ → ℕ → ℕ → ℕ → Result (List ℕ) Fault
stored ws base offset w = with_word ws (reached base offset (length ws)) w

-- the unit that computes an instruction's result, if it has one
abbrev pub unit_of : Kind → Option ExecUnit
unit_of Stop = None
unit_of Set = Some unit.Short
unit_of Add = Some unit.Short
unit_of Subtract = Some unit.Short
unit_of ExclusiveOr = Some unit.Short
unit_of Multiply = Some unit.Multiply
unit_of Divide = Some unit.Divide
unit_of CheckedAdd = Some unit.Short
unit_of Load = Some unit.Memory
unit_of Store = None
unit_of BranchEqual = None
unit_of BranchUnequal = None

-- the registers that an instruction reads
abbrev pub sources_of : Kind → ℕ → ℕ → List ℕ
sources_of Stop a b = []
sources_of Set a b = []
sources_of Add a b = a ∷ b ∷ []
sources_of Subtract a b = a ∷ b ∷ []
sources_of ExclusiveOr a b = a ∷ b ∷ []
sources_of Multiply a b = a ∷ b ∷ []
sources_of Divide a b = a ∷ b ∷ []
sources_of CheckedAdd a b = a ∷ b ∷ []
sources_of Load a b = a ∷ []
sources_of Store a b = a ∷ b ∷ []
sources_of BranchEqual a b = a ∷ b ∷ []
sources_of BranchUnequal a b = a ∷ b ∷ []

-- the result of an instruction that has a unit, from its field n, the words x of Ra and y of Rb, and the data words
abbrev pub computed : Kind → ℕ → ℕ → ℕ → List ℕ → Result ℕ Fault
computed Stop n x y ws = Err fault.Stop
computed Set n x y ws = Ok n
computed Add n x y ws = Ok ((x + y) % 2 ^ 32)
computed Subtract n x y ws = Ok ((2 ^ 32 + x - y) % 2 ^ 32)
computed ExclusiveOr n x y ws = Ok (bit_xor x y)
computed Multiply n x y ws = Ok (x * y % 2 ^ 32)
computed Divide n x y ws = cond (y == 0) (Err fault.DivideByZero) (Ok (x / y))
computed CheckedAdd n x y ws = cond (overflows x y) (Err fault.Overflow) (Ok ((x + y) % 2 ^ 32))
computed Load n x y ws = loaded ws x n
computed Store n x y ws = Err fault.Illegal
computed BranchEqual n x y ws = Err fault.Illegal
computed BranchUnequal n x y ws = Err fault.Illegal

-- whether a branch is taken
abbrev pub branches : Kind → ℕ → ℕ → Bool
branches BranchEqual x y = x == y
branches BranchUnequal x y = not (x == y)
branches Stop x y = false
branches Set x y = false
branches Add x y = false
branches Subtract x y = false
branches ExclusiveOr x y = false
branches Multiply x y = false
branches Divide x y = false
branches CheckedAdd x y = false
branches Load x y = false
branches Store x y = false

-- the words read, in the order of the sources
abbrev pub first : List ℕ → ℕ
first xs = slice_index xs 0

abbrev pub second : List ℕ → ℕ
second xs = slice_index xs 1

abbrev pub computes : Kind → ℕ → List ℕ → List ℕ → Result ℕ Fault
computes k n xs ws = computed k n (first xs) (second xs) ws

abbrev pub stores : ℕ → List ℕ → List ℕ → Result (List ℕ) Fault
stores n xs ws = stored ws (first xs) n (second xs)

abbrev pub target : Kind → ℕ → List ℕ → ℕ → ℕ
target k n xs counter = cond (branches k (first xs) (second xs)) n (counter + 1)

-- the rows of the table
abbrev pub row : Kind → ℕ → ℕ → ℕ → ℕ → Instr
row Stop d a b n = halt fault.Stop
row Set d a b n = work unit.Short d [] (computes Set n)
row Add d a b n = work unit.Short d (a ∷ b ∷ []) (computes Add n)
row Subtract d a b n = work unit.Short d (a ∷ b ∷ []) (computes Subtract n)
row ExclusiveOr d a b n = work unit.Short d (a ∷ b ∷ []) (computes ExclusiveOr n)
row Multiply d a b n = work unit.Multiply d (a ∷ b ∷ []) (computes Multiply n)
row Divide d a b n = work unit.Divide d (a ∷ b ∷ []) (computes Divide n)
row CheckedAdd d a b n = work unit.Short d (a ∷ b ∷ []) (computes CheckedAdd n)
row Load d a b n = work unit.Memory d (a ∷ []) (computes Load n)
row Store d a b n = store (a ∷ b ∷ []) (stores n)
row BranchEqual d a b n = jump (a ∷ b ∷ []) (target BranchEqual n)
row BranchUnequal d a b n = jump (a ∷ b ∷ []) (target BranchUnequal n)

abbrev pub instruction : Result (Kind × ℕ × ℕ × ℕ × ℕ) Refusal → Instr
instruction (Ok i) = row i.0 i.1 i.2 i.3 i.4
instruction (Err e) = halt fault.Illegal

-- the instruction at a counter: a counter at or past the program's length is a fault, and so is an illegal word
abbrev pub fetched : List ℕ → ℕ → Instr
fetched program counter =
    cond (nat_lt counter (length program)) (instruction (decoded (slice_index program counter))) (halt fault.PastEnd)
