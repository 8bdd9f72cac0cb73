-- A flight of entries, oldest first: its tags count up, modulo 256, from the oldest entry's.
use Rattle.std.specs.Prelude.{ℕ, ◌+◌, ◌-◌, ◌%◌, Bool, List, length, Option, nat_le, slice_get}

-- whether no entry is added to a flight of a capacity
abbrev pub is_full : {E : Type 0} → ℕ → List E → Bool
is_full c es = nat_le c (length es)

-- the tag of the next entry, where the oldest has the tag t
abbrev pub next_tag : {E : Type 0} → ℕ → List E → ℕ
next_tag t es = (t + length es) % 256

-- how far the tag u is from the oldest entry's
abbrev pub distance : ℕ → ℕ → ℕ
distance t u = (u + (256 - t)) % 256

-- the entry of the tag u, if any
abbrev pub entry_at : {E : Type 0} → ℕ → List E → ℕ → Option E
entry_at t es u = slice_get es (distance t u)
