-- What a reorder buffer means, and what its searches answer.
use Rattle.std.specs.Prelude.{ℕ, Bool, false, cond, Some, None, Option, option_and_then, slice_get}
use Rattle.recovery.specs.declared.Status.{Status}
use Rattle.recovery.specs.declared.Status.TheVariants.{Pending, Done, Faulted}
use Rattle.recovery.specs.declared.Timing.{Timing}
use Rattle.recovery.specs.declared.Timing.TheVariants.{Early, Late}
use Rattle.recovery.specs.declared.slots.Slot.{Slot}
use Rattle.recovery.specs.Meaning.{Meaning, youngest, is_pending}
use Rattle.recovery.specs.Slots.{in_slots, status_in}
use Rattle.recovery.specs.Flight.{distance}
use Rattle.reorder.specs.declared.buffer.Buffer.{Buffer}

-- the slots are the flight
abbrev pub mean : Buffer → Meaning
mean b = in_slots b.settled b.flight.capacity b.flight.first b.flight.entries.items

-- the status of the youngest entry that names a register
abbrev pub newest_status : Buffer → ℕ → Option Status
newest_status b r = status_in (youngest r (mean b).flight)

-- the word that a source takes from the youngest entry that names it, if it may be read yet
abbrev pub readable_word : Timing → Status → Option ℕ
readable_word k Pending = None
readable_word Early (Done w) = Some w
readable_word Late (Done w) = None
readable_word k (Faulted f) = None

-- the place of a tag
abbrev pub place_of : Buffer → ℕ → ℕ
place_of b t = distance b.flight.first t

-- whether there is a slot, and it is pending
abbrev pub waits : Option Slot → Bool
waits None = false
waits (Some s) = is_pending s.status

-- the place of the pending entry of a tag
abbrev pub taker_at : Buffer → ℕ → Option ℕ
taker_at b t = cond (waits (slice_get b.flight.entries.items (place_of b t))) (Some (place_of b t)) None

-- the pending slot of a tag
abbrev pub taken_slot : Buffer → ℕ → Option Slot
taken_slot b t = option_and_then (slice_get b.flight.entries.items) (taker_at b t)
