-- What is proved of one cycle.
use Rattle.std.specs.Prelude.{◌≡◌, ℕ, ◌≤◌, Bool, true, false, List, [], length, replicate, Some, None}
use Rattle.isa.specs.declared.fault.Cause.TheVariants as cause
use Rattle.isa.specs.Plain.{Plain}
use Rattle.recovery.specs.declared.Timing.{Timing}
use Rattle.recovery.specs.Meaning.{has_tag, oldest_answer}
use Rattle.pickcore.specs.Cycle.{Setting, Pipe, emptied, cycle, flight_at_admission}
use Rattle.pickcore.specs.Limits.{delays_fit}
use Rattle.pickcore.specs.Model.{setting}
use Rattle.precision.specs.Fit.{Fit, Sane, longest_of}
use Rattle.precision.specs.Beside.{Runs, Ends, Held}
use Rattle.precision.specs.Waits.{Within, wait_of, Calm}

-- delays that load accepts, one for each of the four units, and any program make a setting that is fit and sane
abbrev pub SettingsAreFit : Type 0
SettingsAreFit = (timing : Timing) (delays program : List ℕ) → length delays ≡ 4 → delays_fit delays ≡ true
    → Fit (setting timing delays program) (longest_of delays) × Sane (setting timing delays program)

-- with nothing in flight and no stage taken, a run starts beside the plain machine with the same registers, data words
-- and counter
abbrev pub StartsBeside : Type 0
StartsBeside = (s : Setting) (p : Pipe) (ws : List ℕ) → p.scheme.flight ≡ [] → p.stages ≡ replicate 16 None → p.count ≡ 0
    → length p.scheme.settled ≡ 16 → 1 ≤ p.scheme.capacity → Runs s (record { registers = p.scheme.settled; words = ws; counter = p.next }) p ws

-- from a pipe beside the plain machine, a cycle by any tag that is free leads to one beside it again, running or stopped
abbrev pub CycleIsPrecise : Type 0
CycleIsPrecise = (s : Setting) (longest : ℕ) → Fit s longest → Sane s → (base : Plain) (requested : Bool) (t : ℕ) (p : Pipe) (ws : List ℕ)
    → Runs s base p ws → has_tag t (flight_at_admission p) ≡ false → Held s base (cycle s requested t p ws)

-- a cut between two cycles, at the counter of the oldest instruction in flight or else at the next one, stops in agreement
abbrev pub CutIsPrecise : Type 0
CutIsPrecise = (s : Setting) (base : Plain) (p : Pipe) (ws : List ℕ) (n : ℕ) → Runs s base p ws
    → ((c : ℕ) → oldest_answer p.scheme ≡ Some c → n ≡ c) → (oldest_answer p.scheme ≡ None → n ≡ p.next) → Ends s base cause.Cut (emptied p n) ws

-- with no stage taken, none past the longest delay is
abbrev pub StartsWithin : Type 0
StartsWithin = (longest : ℕ) → Within longest (replicate 16 None)

-- a wait is at most the longest delay, and a cycle that neither raises the count nor stops makes it shorter
abbrev pub WaitsAreShort : Type 0
WaitsAreShort = (s : Setting) (longest : ℕ) → Fit s longest → Sane s → (base : Plain) (p : Pipe) (ws : List ℕ) → Runs s base p ws → Within longest p.stages
    → (wait_of longest p.stages p.scheme.flight ≤ longest)
    × ((requested : Bool) (t : ℕ) → has_tag t (flight_at_admission p) ≡ false → Calm longest p.count (wait_of longest p.stages p.scheme.flight) (cycle s requested t p ws))
