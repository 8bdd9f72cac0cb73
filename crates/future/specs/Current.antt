-- What the newest file holds, and what keeps it right.
use Rattle.std.specs.Prelude.{◌≡◌, ℕ, Bool, true, false, not, ◌&&◌, List, [], ◌∷◌, is_some, Some, None, Option, Result, nat_lt}
use Rattle.isa.specs.declared.fault.Fault.{Fault}
use Rattle.recovery.specs.declared.Status.{Status}
use Rattle.recovery.specs.declared.Status.TheVariants.{Pending, Done, Faulted}
use Rattle.recovery.specs.declared.slots.Slot.{Slot}
use Rattle.recovery.specs.Meaning.{Entry, Meaning, youngest, put, ended}

-- the word of a done entry goes to its destination
abbrev pub put_done : List ℕ → Option ℕ → Status → List ℕ
put_done ws d Pending = ws
put_done ws d (Done w) = put ws d w
put_done ws d (Faulted f) = ws

-- the newest words: the settled ones, and over them the words of the done entries, from the oldest on
abbrev pub current : List ℕ → List Entry → List ℕ
current ws [] = ws
current ws (e ∷ es) = current (put_done ws e.destination e.status) es

-- a pending entry has a destination, below 16, which no younger entry names
abbrev pub clear : Status → Option ℕ → List Entry → Bool
clear Pending None es = false
clear Pending (Some r) es = nat_lt r 16 && not (is_some (youngest r es))
clear (Done w) d es = true
clear (Faulted f) d es = true

-- each entry is clear of those younger than it
abbrev pub guarded : List Entry → Bool
guarded [] = true
guarded (e ∷ es) = clear e.status e.destination es && guarded es

-- a file holds the newest words of a meaning
abbrev pub Follows : List ℕ → Meaning → Type 0
Follows ws m = (ws ≡ current m.settled m.flight) × (guarded m.flight ≡ true)

-- a file after a result, by the slot that takes it, if any
abbrev pub written : List ℕ → Option Slot → Result ℕ Fault → List ℕ
written ws None r = ws
written ws (Some s) r = put_done ws s.destination (ended r)
