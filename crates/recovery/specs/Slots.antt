-- Slots as entries in flight: the tags count up, modulo 256, from the oldest entry's.
use Rattle.std.specs.Prelude.{ℕ, ◌+◌, ◌%◌, Bool, List, [], ◌∷◌, Some, None, Option}
use Rattle.recovery.specs.declared.Status.{Status}
use Rattle.recovery.specs.declared.slots.Slot.{Slot}
use Rattle.recovery.specs.Meaning.{Entry, Meaning, is_register}

abbrev pub slot_names : Slot → ℕ → Bool
slot_names s r = is_register s.destination r

abbrev pub entry_of : ℕ → Slot → Entry
entry_of t s = record { tag = t; counter = s.counter; destination = s.destination; status = s.status }

-- the flight of the slots in use, where the oldest has the tag t
abbrev pub flight_of : ℕ → List Slot → List Entry
flight_of t [] = []
flight_of t (s ∷ ss) = entry_of t s ∷ flight_of ((t + 1) % 256) ss

abbrev pub status_in : Option Entry → Option Status
status_in None = None
status_in (Some e) = Some e.status

-- a meaning by its settled words, its capacity, the oldest tag and the slots
abbrev pub in_slots : List ℕ → ℕ → ℕ → List Slot → Meaning
in_slots ws c t ss = record { settled = ws; capacity = c; flight = flight_of t ss }
