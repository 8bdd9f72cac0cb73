-- What load accepts.
use Rattle.std.specs.Prelude.{ℕ, Bool, ◌&&◌, List, nat_le}
use Rattle.std.specs.List.{list_all}

-- a delay, and a capacity, is a number from 1 to 16
abbrev pub one_to_sixteen : ℕ → Bool
one_to_sixteen n = nat_le 1 n && nat_le n 16

-- every delay is one
abbrev pub delays_fit : List ℕ → Bool
delays_fit ds = list_all one_to_sixteen ds

-- a program has from 1 to 4,096 words
abbrev pub program_fits : ℕ → Bool
program_fits n = nat_le 1 n && nat_le n 4096

-- there are at most 4,096 data words
abbrev pub data_fits : ℕ → Bool
data_fits n = nat_le n 4096

-- a run may take a million cycles since its resume
abbrev pub stretch : ℕ
stretch = 1000000
