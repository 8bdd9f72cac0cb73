-- Instruction words: the kind in bits 31 to 28, d in 27 to 24, a in 23 to 20, b in 19 to 16, n in 15 to 0.
use Rattle.std.specs.Prelude.{ℕ, ◌+◌, ◌*◌, ◌/◌, ◌%◌, ◌^◌, Bool, cond, ◌&&◌, Ok, Err, Result, ◌==◌, nat_le, nat_lt}
use Rattle.isa.specs.declared.words.Kind.{Kind}
use Rattle.isa.specs.declared.words.Kind.TheVariants.{Stop, Set, Add, Subtract, ExclusiveOr, Multiply, Divide, CheckedAdd, Load, Store, BranchEqual, BranchUnequal}
use Rattle.isa.specs.declared.refusal.Refusal.{Refusal}
use Rattle.isa.specs.declared.refusal.Refusal.TheVariants.{NotAnInstruction}
use Rattle.isa.specs.Numbers.{kind_number}

-- the five fields
abbrev pub kind_bits : ℕ → ℕ
kind_bits w = w / 2 ^ 28

abbrev pub d_bits : ℕ → ℕ
d_bits w = w / 2 ^ 24 % 16

abbrev pub a_bits : ℕ → ℕ
a_bits w = w / 2 ^ 20 % 16

abbrev pub b_bits : ℕ → ℕ
b_bits w = w / 2 ^ 16 % 16

abbrev pub n_bits : ℕ → ℕ
n_bits w = w % 2 ^ 16

-- the kind of a number up to 11
abbrev pub kind_of : ℕ → Kind
kind_of k =
    cond (k == 0) Stop (cond (k == 1) Set (cond (k == 2) Add (cond (k == 3) Subtract (cond (k == 4) ExclusiveOr
    (cond (k == 5) Multiply (cond (k == 6) Divide (cond (k == 7) CheckedAdd (cond (k == 8) Load
    (cond (k == 9) Store (cond (k == 10) BranchEqual BranchUnequal))))))))))

-- every field that an instruction of the kind does not use is zero
abbrev pub unused_zero : Kind → ℕ → ℕ → ℕ → ℕ → Bool
unused_zero Stop d a b n = d == 0 && (a == 0 && (b == 0 && n == 0))
unused_zero Set d a b n = a == 0 && b == 0
unused_zero Add d a b n = n == 0
unused_zero Subtract d a b n = n == 0
unused_zero ExclusiveOr d a b n = n == 0
unused_zero Multiply d a b n = n == 0
unused_zero Divide d a b n = n == 0
unused_zero CheckedAdd d a b n = n == 0
unused_zero Load d a b n = b == 0
unused_zero Store d a b n = d == 0
unused_zero BranchEqual d a b n = d == 0
unused_zero BranchUnequal d a b n = d == 0

-- a word is legal if its kind is at most 11 and its unused fields are zero
abbrev pub legal : ℕ → Bool
legal w = nat_le (kind_bits w) 11 && unused_zero (kind_of (kind_bits w)) (d_bits w) (a_bits w) (b_bits w) (n_bits w)

-- what a word reads as: the kind with d, a, b and n
abbrev pub decoded : ℕ → Result (Kind × ℕ × ℕ × ℕ × ℕ) Refusal
decoded w =
    cond (legal w)
    (Ok (kind_of (kind_bits w), d_bits w, a_bits w, b_bits w, n_bits w))
    (Err NotAnInstruction)

-- the word with these fields
abbrev pub joined : Kind → ℕ → ℕ → ℕ → ℕ → ℕ
joined k d a b n = kind_number k * 2 ^ 28 + d * 2 ^ 24 + a * 2 ^ 20 + b * 2 ^ 16 + n

-- what is written for a kind with d, a, b and n
abbrev pub encoded : Kind → ℕ → ℕ → ℕ → ℕ → Result ℕ Refusal
encoded k d a b n =
    cond (nat_lt d 16 && (nat_lt a 16 && (nat_lt b 16 && unused_zero k d a b n)))
    (Ok (joined k d a b n))
    (Err NotAnInstruction)
