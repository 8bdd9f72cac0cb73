-- One cycle of the core, by its seven rules.
use Rattle.std.specs.Prelude.{◌≡◌, ℕ, ◌+◌, ◌-◌, ◌<◌, Bool, true, false, List, [], ◌∷◌, ◌++◌, drop, replicate, Some, None, Ok, Err, Option, Result, slice_index_or, slice_set}
use Rattle.isa.specs.declared.fault.Fault.{Fault}
use Rattle.isa.specs.declared.fault.Cause.{Cause}
use Rattle.isa.specs.declared.fault.Cause.TheVariants as cause
use Rattle.isa.specs.declared.unit.ExecUnit.{ExecUnit}
use Rattle.isa.specs.Table.{Instr, halt, store, work, jump}
use Rattle.isa.specs.Plain.{reads}
use Rattle.recovery.specs.declared.Timing.{Timing}
use Rattle.recovery.specs.declared.AdmitError.{AdmitError}
use Rattle.recovery.specs.declared.AdmitError.TheVariants.{Awaited, Full}
use Rattle.recovery.specs.declared.Trap.{Trap}
use Rattle.recovery.specs.Meaning.{Meaning, Entry, has_tag, deliver_leaves, look_answer, oldest_answer, admit_answer, admit_leaves, retire_answer, retire_leaves, backed_out}
use Rattle.pickcore.specs.declared.record.Hold.{Hold}
use Rattle.pickcore.specs.declared.record.Hold.TheVariants as hold
use Rattle.pickcore.specs.declared.record.Ending.{Ending}
use Rattle.pickcore.specs.declared.record.Ending.TheVariants.{Issued, Stored, Held, Stopped}
use Rattle.pickcore.specs.declared.stages.Stage.{Stage}

-- what stays through a run: the mark of the scheme, the units' delays, and the instruction at each counter
pub record Setting : Type 0 where
  pub timing : Timing
  pub delay : ExecUnit → ℕ
  pub code : ℕ → Instr

-- what a cycle moves: the scheme, the stages, the next counter, and the count of instructions since the resume
pub record Pipe : Type 0 where
  pub scheme : Meaning
  pub stages : List (Option Stage)
  pub next : ℕ
  pub count : ℕ

-- how the rules after the retirement go: the cycle's ending, and what they leave
pub record Move : Type 0 where
  pub ending : Ending
  pub pipe : Pipe

-- the same with the data words that they leave
pub record Turn : Type 0 where
  pub ending : Ending
  pub pipe : Pipe
  pub words : List ℕ

-- a move that leaves the data words as they are
abbrev pub beside : List ℕ → Move → Turn
beside ws m = record { ending = m.ending; pipe = m.pipe; words = ws }

-- Rule 1: the first stage, if taken, is delivered and emptied

abbrev pub delivers : Meaning → Option Stage → Meaning
delivers m None = m
delivers m (Some x) = deliver_leaves m x.tag x.result

abbrev pub arrived : Pipe → Pipe
arrived p = record { scheme = delivers p.scheme (slice_index_or p.stages 0 None); stages = slice_set p.stages 0 None; next = p.next; count = p.count }

-- Rule 2: every stage moves one place on

abbrev pub moved : Pipe → Pipe
moved p = record { scheme = p.scheme; stages = drop 1 p.stages ++ (None ∷ []); next = p.next; count = p.count }

-- Rule 3: the oldest entry retires, which adds 1 to the count; a fault backs out the flight, empties the stages and
-- stops the core at the faulting counter

abbrev pub settled : Pipe → Pipe
settled p = record { scheme = retire_leaves p.scheme; stages = p.stages; next = p.next; count = p.count + 1 }

abbrev pub emptied : Pipe → ℕ → Pipe
emptied p n = record { scheme = backed_out p.scheme; stages = replicate 16 None; next = n; count = p.count }

abbrev pub stops : Pipe → Cause → ℕ → Move
stops p c n = record { ending = Stopped c; pipe = emptied p n }

abbrev pub holds : Pipe → Hold → Move
holds p h = record { ending = Held h; pipe = p }

-- Rules 4 and 5: a stop at the next counter that waits, under a hold, until nothing is in flight

abbrev pub drained : Pipe → Hold → Cause → Option ℕ → Move
drained p h c (Some oldest) = holds p h
drained p h c None = stops p c p.next

abbrev pub drains : Pipe → Hold → Cause → Move
drains p h c = drained p h c (oldest_answer p.scheme)

-- Rule 5, a store: with nothing in flight it is written at once, adds 1 to the count and moves the counter on

abbrev pub writes : Pipe → List ℕ → Result (List ℕ) Fault → Turn
writes p ws (Ok vs) = record { ending = Stored p.next; pipe = record { scheme = p.scheme; stages = p.stages; next = p.next + 1; count = p.count + 1 }; words = vs }
writes p ws (Err f) = beside ws (stops p (cause.Fault f) p.next)

abbrev pub putting : Pipe → List ℕ → List ℕ → (List ℕ → List ℕ → Result (List ℕ) Fault) → Option ℕ → Turn
putting p ws rs f (Some oldest) = beside ws (holds p hold.Flight)
putting p ws rs f None = writes p ws (f (reads p.scheme.settled rs) ws)

-- Rules 6 and 7: what admit says of the new entry, whose tag is t

abbrev pub admitted : Pipe → Meaning → List (Option Stage) → ℕ → Result ℕ AdmitError → Move
admitted p m stages next (Err Awaited) = holds p hold.Destination
admitted p m stages next (Err Full) = holds p hold.Capacity
admitted p m stages next (Ok t) = record { ending = Issued p.next; pipe = record { scheme = m; stages = stages; next = next; count = p.count } }

abbrev pub admits : ℕ → Pipe → Option ℕ → List (Option Stage) → ℕ → Move
admits t p d stages next = admitted p (admit_leaves p.scheme p.next d t) stages next (admit_answer p.scheme d t)

-- the words of some sources; none where one of them is awaited
abbrev pub both : Option ℕ → Option (List ℕ) → Option (List ℕ)
both None ys = None
both (Some x) None = None
both (Some x) (Some ys) = Some (x ∷ ys)

abbrev pub looks : Timing → Meaning → List ℕ → Option (List ℕ)
looks k m [] = Some []
looks k m (r ∷ rs) = both (look_answer k m r) (looks k m rs)

-- an instruction with a result: its sources, the stage of its delay, its destination, and room in the flight
abbrev pub entering : ℕ → Pipe → ℕ → ℕ → Result ℕ Fault → Option Stage → Move
entering t p delay d r (Some x) = holds p hold.Stage
entering t p delay d r None = admits t p (Some d) (slice_set p.stages (delay - 1) (Some (record { tag = t; result = r }))) (p.next + 1)

abbrev pub working : ℕ → Pipe → List ℕ → ℕ → ℕ → (List ℕ → List ℕ → Result ℕ Fault) → Option (List ℕ) → Move
working t p ws delay d f None = holds p hold.Source
working t p ws delay d f (Some xs) = entering t p delay d (f xs ws) (slice_index_or p.stages (delay - 1) None)

-- a branch: its sources, and room in the flight; it takes no stage, and moves the counter as it issues
abbrev pub jumping : ℕ → Pipe → (List ℕ → ℕ → ℕ) → Option (List ℕ) → Move
jumping t p f None = holds p hold.Source
jumping t p f (Some xs) = admits t p None p.stages (f xs p.next)

-- Rules 5 to 7, by the next instruction

unfoldable pub dispatch : Setting → ℕ → Pipe → List ℕ → Instr → Turn
dispatch s t p ws (halt f) = beside ws (drains p hold.Flight (cause.Fault f))
dispatch s t p ws (store rs f) = putting p ws rs f (oldest_answer p.scheme)
dispatch s t p ws (work u d rs f) = beside ws (working t p ws (s.delay u) d f (looks s.timing p.scheme rs))
dispatch s t p ws (jump rs f) = beside ws (jumping t p f (looks s.timing p.scheme rs))

-- Rule 4: a request stops the core once nothing is in flight; without one the next instruction is tried

unfoldable pub front : Setting → Bool → ℕ → Pipe → List ℕ → Turn
front s true t p ws = beside ws (drains p hold.Request cause.Request)
front s false t p ws = dispatch s t p ws (s.code p.next)

-- Rule 3, by what retire answers; then the others

unfoldable pub retiring : Setting → Bool → ℕ → Pipe → List ℕ → Result (Option ℕ) Trap → Turn
retiring s requested t p ws (Ok None) = front s requested t p ws
retiring s requested t p ws (Ok (Some c)) = front s requested t (settled p) ws
retiring s requested t p ws (Err x) = beside ws (stops p (cause.Fault x.fault) x.counter)

-- one cycle, where t is the tag that admit would choose
unfoldable pub cycle : Setting → Bool → ℕ → Pipe → List ℕ → Turn
cycle s requested t p ws = retiring s requested t (moved (arrived p)) ws (retire_answer (moved (arrived p)).scheme)

-- the counter that retires in a cycle, if any
abbrev pub counter_of : Result (Option ℕ) Trap → Option ℕ
counter_of (Ok None) = None
counter_of (Ok (Some c)) = Some c
counter_of (Err x) = None

abbrev pub retires : Pipe → Option ℕ
retires p = counter_of (retire_answer (moved (arrived p)).scheme)

-- the flight as admit finds it in a cycle: past what the cycle delivers and retires
abbrev pub flight_at_admission : Pipe → List Entry
flight_at_admission p = (retire_leaves (moved (arrived p)).scheme).flight

-- whether a cycle admits an entry
abbrev pub issues : Ending → Bool
issues (Issued c) = true
issues (Stored c) = false
issues (Held h) = false
issues (Stopped c) = false

-- something that depends on the tag that admit chose: any from 0 to 255 that no entry in flight has
pub record Chosen {A : Type 0} (f : ℕ → A) (flight : List Entry) (e : Ending) (x : A) : Type 0 where
  pub tag : ℕ
  pub free : issues e ≡ true → (tag < 256) × (has_tag tag flight ≡ false)
  pub is : x ≡ f tag
