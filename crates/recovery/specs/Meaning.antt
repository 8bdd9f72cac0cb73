-- The meaning of a recovery scheme, and what each of its functions answers and leaves.
use Rattle.std.specs.Prelude.{◌≡◌, ℕ, ◌<◌, Bool, true, false, cond, ◌&&◌, ◌||◌, List, [], ◌∷◌, ◌++◌, length, replicate, is_some, Some, None, Ok, Err, Option, Result, ◌==◌, nat_le, nat_lt, slice_index, slice_set}
use Rattle.isa.specs.declared.fault.Fault.{Fault}
use Rattle.recovery.specs.declared.Status.{Status}
use Rattle.recovery.specs.declared.Status.TheVariants.{Pending, Done, Faulted}
use Rattle.recovery.specs.declared.Timing.{Timing}
use Rattle.recovery.specs.declared.Timing.TheVariants.{Early, Late}
use Rattle.recovery.specs.declared.AdmitError.{AdmitError}
use Rattle.recovery.specs.declared.AdmitError.TheVariants.{Awaited, Full}
use Rattle.recovery.specs.declared.Trap.{Trap}
use Rattle.recovery.specs.Search.{last_of}

-- an instruction in flight: its tag, its counter, its destination, if any, and what it has come to
pub record Entry : Type 0 where
  pub tag : ℕ
  pub counter : ℕ
  pub destination : Option ℕ
  pub status : Status

-- sixteen settled registers, a capacity from 1 to 16, and the flight, oldest first
pub record Meaning : Type 0 where
  pub settled : List ℕ
  pub capacity : ℕ
  pub flight : List Entry

abbrev pub with_settled : Meaning → List ℕ → Meaning
with_settled m ws = record { settled = ws; capacity = m.capacity; flight = m.flight }

abbrev pub with_flight : Meaning → List Entry → Meaning
with_flight m es = record { settled = m.settled; capacity = m.capacity; flight = es }

-- Awaited registers

abbrev pub is_register : Option ℕ → ℕ → Bool
is_register None r = false
is_register (Some d) r = d == r

-- whether an entry names a register
abbrev pub names : ℕ → Entry → Bool
names r e = is_register e.destination r

-- the youngest entry that names a register
abbrev pub youngest : ℕ → List Entry → Option Entry
youngest r es = last_of (names r) es

abbrev pub unready : Status → Bool
unready Pending = true
unready (Done w) = false
unready (Faulted f) = true

abbrev pub held_up : Option Entry → Bool
held_up None = false
held_up (Some e) = unready e.status

-- a register is awaited as a destination if the youngest entry naming it is pending or faulted; one above 15 always is
abbrev pub awaited : Meaning → ℕ → Bool
awaited m r = cond (nat_lt r 16) (held_up (youngest r m.flight)) true

abbrev pub awaited_destination : Meaning → Option ℕ → Bool
awaited_destination m None = false
awaited_destination m (Some r) = awaited m r

-- a source is awaited as a destination is, under early; under late, while any entry names it
abbrev pub awaited_source : Timing → Meaning → ℕ → Bool
awaited_source Early m r = awaited m r
awaited_source Late m r = cond (nat_lt r 16) (is_some (youngest r m.flight)) true

-- fresh and start

abbrev pub blank : ℕ → Meaning
blank c = record { settled = replicate 16 0; capacity = c; flight = [] }

abbrev pub fresh : Meaning
fresh = blank 1

abbrev pub start_answer : ℕ → Bool
start_answer c = nat_le 1 c && nat_le c 16

abbrev pub start_leaves : Meaning → ℕ → Meaning
start_leaves m c = cond (start_answer c) (blank c) m

-- place

abbrev pub is_empty : {A : Type 0} → List A → Bool
is_empty [] = true
is_empty (x ∷ xs) = false

abbrev pub place_answer : Meaning → ℕ → Bool
place_answer m r = is_empty m.flight && nat_lt r 16

abbrev pub place_leaves : Meaning → ℕ → ℕ → Meaning
place_leaves m r w = cond (place_answer m r) (with_settled m (slice_set m.settled r w)) m

-- admit

-- an entry without a destination is done at once
abbrev pub first_status : Option ℕ → Status
first_status None = Done 0
first_status (Some r) = Pending

abbrev pub new_entry : ℕ → ℕ → Option ℕ → Entry
new_entry t c d = record { tag = t; counter = c; destination = d; status = first_status d }

abbrev pub has_tag : ℕ → List Entry → Bool
has_tag t [] = false
has_tag t (e ∷ es) = e.tag == t || has_tag t es

abbrev pub full : Meaning → Bool
full m = nat_le m.capacity (length m.flight)

abbrev pub admit_answer : Meaning → Option ℕ → ℕ → Result ℕ AdmitError
admit_answer m d t = cond (awaited_destination m d) (Err Awaited) (cond (full m) (Err Full) (Ok t))

abbrev pub admit_leaves : Meaning → ℕ → Option ℕ → ℕ → Meaning
admit_leaves m c d t = cond (awaited_destination m d) m (cond (full m) m (with_flight m (m.flight ++ (new_entry t c d ∷ []))))

-- what admit answers and leaves, by the tag that the scheme chose: a number from 0 to 255 that no entry in flight has
pub record Admits (m : Meaning) (c : ℕ) (d : Option ℕ) (r : Result ℕ AdmitError) (n : Meaning) : Type 0 where
  pub tag : ℕ
  pub free : r ≡ Ok tag → (tag < 256) × (has_tag tag m.flight ≡ false)
  pub answer : r ≡ admit_answer m d tag
  pub leaves : n ≡ admit_leaves m c d tag

-- deliver

abbrev pub ended : Result ℕ Fault → Status
ended (Ok w) = Done w
ended (Err f) = Faulted f

abbrev pub is_pending : Status → Bool
is_pending Pending = true
is_pending (Done w) = false
is_pending (Faulted f) = false

-- whether an entry is the one that a delivery to the tag turns
abbrev pub takes : ℕ → Entry → Bool
takes t e = e.tag == t && is_pending e.status

-- whether an entry of the tag is pending
abbrev pub waiting : ℕ → List Entry → Bool
waiting t [] = false
waiting t (e ∷ es) = takes t e || waiting t es

abbrev pub with_status : Entry → Status → Entry
with_status e s = record { tag = e.tag; counter = e.counter; destination = e.destination; status = s }

abbrev pub delivered : ℕ → Status → List Entry → List Entry
delivered t s [] = []
delivered t s (e ∷ es) = cond (takes t e) (with_status e s) e ∷ delivered t s es

abbrev pub deliver_answer : Meaning → ℕ → Bool
deliver_answer m t = waiting t m.flight

abbrev pub deliver_leaves : Meaning → ℕ → Result ℕ Fault → Meaning
deliver_leaves m t r = with_flight m (delivered t (ended r) m.flight)

-- look

abbrev pub word_of : Status → ℕ
word_of Pending = 0
word_of (Done w) = w
word_of (Faulted f) = 0

-- the word of an entry, or else the settled one
abbrev pub word_in : Option Entry → ℕ → ℕ
word_in None w = w
word_in (Some e) w = word_of e.status

abbrev pub look_answer : Timing → Meaning → ℕ → Option ℕ
look_answer k m r = cond (awaited_source k m r) None (Some (word_in (youngest r m.flight) (slice_index m.settled r)))

-- oldest

abbrev pub oldest_of : List Entry → Option ℕ
oldest_of [] = None
oldest_of (e ∷ es) = Some e.counter

abbrev pub oldest_answer : Meaning → Option ℕ
oldest_answer m = oldest_of m.flight

-- retire

abbrev pub retire_status : ℕ → Status → Result (Option ℕ) Trap
retire_status c Pending = Ok None
retire_status c (Done w) = Ok (Some c)
retire_status c (Faulted f) = Err (record { counter = c; fault = f })

abbrev pub retire_flight : List Entry → Result (Option ℕ) Trap
retire_flight [] = Ok None
retire_flight (e ∷ es) = retire_status e.counter e.status

abbrev pub retire_answer : Meaning → Result (Option ℕ) Trap
retire_answer m = retire_flight m.flight

-- a word goes to its destination, if any
abbrev pub put : List ℕ → Option ℕ → ℕ → List ℕ
put ws None w = ws
put ws (Some r) w = slice_set ws r w

abbrev pub settle : Meaning → List Entry → Option ℕ → Status → Meaning
settle m es d Pending = m
settle m es d (Done w) = record { settled = put m.settled d w; capacity = m.capacity; flight = es }
settle m es d (Faulted f) = m

abbrev pub settle_oldest : Meaning → List Entry → Meaning
settle_oldest m [] = m
settle_oldest m (e ∷ es) = settle m es e.destination e.status

abbrev pub retire_leaves : Meaning → Meaning
retire_leaves m = settle_oldest m m.flight

-- back out

abbrev pub backed_out : Meaning → Meaning
backed_out m = with_flight m []
