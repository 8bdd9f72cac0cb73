-- The plain machine beside a pipe. It stands where the oldest instruction in flight does, and it foretells what every
-- instruction in flight comes to, up to the first fault.
use Rattle.std.specs.Prelude.{◌≡◌, ℕ, ◌<◌, ◌≤◌, cond, ◌&&◌, List, [], ◌∷◌, length, replicate, Some, None, Ok, Err, Option, ◌==◌}
use Rattle.isa.specs.declared.fault.Fault.{Fault}
use Rattle.isa.specs.declared.fault.Cause.{Cause}
use Rattle.isa.specs.declared.fault.Cause.TheVariants as cause
use Rattle.isa.specs.Table.{Instr}
use Rattle.isa.specs.Plain.{Plain, executed}
use Rattle.recovery.specs.declared.Status.{Status}
use Rattle.recovery.specs.declared.Status.TheVariants.{Done, Faulted}
use Rattle.recovery.specs.Meaning.{Entry, is_pending, ended, put, with_status}
use Rattle.pickcore.specs.declared.record.Ending.{Ending}
use Rattle.pickcore.specs.declared.record.Ending.TheVariants as ending
use Rattle.pickcore.specs.declared.stages.Stage.{Stage}
use Rattle.pickcore.specs.Cycle.{Setting, Pipe, Turn}
use Rattle.pickcore.specs.Sound.{Tied}
use Rattle.precision.specs.Steps.{steps}

-- the status that an entry with this tag and status has once every stage is delivered
abbrev pub fate : List (Option Stage) → ℕ → Status → Status
fate [] t y = y
fate (None ∷ xs) t y = fate xs t y
fate (Some x ∷ xs) t y = fate xs t (cond (t == x.tag && is_pending y) (ended x.result) y)

-- the entry itself, then
abbrev pub come_to : List (Option Stage) → Entry → Entry
come_to xs e = with_status e (fate xs e.tag e.status)

-- the flight once every stage is delivered
abbrev pub foreseen : List (Option Stage) → List Entry → List Entry
foreseen xs [] = []
foreseen xs (e ∷ es) = come_to xs e ∷ foreseen xs es

-- a destination, if any, is a register
abbrev pub Settles : Option ℕ → Type 0
Settles None = Unit {0}
Settles (Some d) = d < 16

-- The plain machine takes the steps of some entries, oldest first: each has the counter where the machine stands and the
-- word that its step gives. A step with a fault has that fault, and nothing is said of the entries past it. Past the last
-- entry the machine stands at the counter n.
pub data Follows (code : ℕ → Instr) (n : ℕ) : Plain → List Entry → Type 0 where
  end : {q : Plain} → q.counter ≡ n → Follows code n q []
  trap : {q : Plain} {e : Entry} {es : List Entry} (f : Fault) → e.counter ≡ q.counter → e.status ≡ Faulted f → executed (code q.counter) q ≡ Err f
      → Follows code n q (e ∷ es)
  on : {q r : Plain} {e : Entry} {es : List Entry} (w : ℕ) → e.counter ≡ q.counter → e.status ≡ Done w → executed (code q.counter) q ≡ Ok r
      → r.registers ≡ put q.registers e.destination w → r.words ≡ q.words → Settles e.destination → Follows code n r es → Follows code n q (e ∷ es)

-- a pipe with its data words, and the plain machine where its oldest instruction in flight stands
pub record Matches (s : Setting) (q : Plain) (p : Pipe) (ws : List ℕ) : Type 0 where
  -- registers and data words are the same
  pub registers : q.registers ≡ p.scheme.settled
  pub words : q.words ≡ ws
  -- from there its steps give what the instructions in flight come to, up to the next instruction to issue
  pub follows : Follows s.code p.next q (foreseen p.stages p.scheme.flight)
  -- sixteen registers, room for an instruction, and sixteen stages, each taken for one pending instruction
  pub wide : length q.registers ≡ 16
  pub roomy : 1 ≤ p.scheme.capacity
  pub rows : length p.stages ≡ 16
  pub tied : Tied p.scheme.flight p.stages

-- a pipe that runs, and the plain machine that is `count` steps on from its base
pub record Runs (s : Setting) (base : Plain) (p : Pipe) (ws : List ℕ) : Type 0 where
  pub now : Plain
  pub ran : steps s.code p.count base ≡ Ok now
  pub here : Matches s now p ws

-- a pipe that stopped: it agrees with the plain machine `count` steps on, and a fault is that of the machine's next step
pub record Ends (s : Setting) (base : Plain) (c : Cause) (p : Pipe) (ws : List ℕ) : Type 0 where
  pub now : Plain
  pub ran : steps s.code p.count base ≡ Ok now
  pub registers : now.registers ≡ p.scheme.settled
  pub words : now.words ≡ ws
  pub counter : now.counter ≡ p.next
  pub fault : (f : Fault) → c ≡ cause.Fault f → executed (s.code now.counter) now ≡ Err f
  -- it can be resumed: nothing is in flight and no stage is taken
  pub wide : length now.registers ≡ 16
  pub roomy : 1 ≤ p.scheme.capacity
  pub empty : p.scheme.flight ≡ []
  pub clear : p.stages ≡ replicate 16 None

-- one thing holds of a cycle that goes on, another of one that stops
abbrev pub ByEnding : Type 0 → (Cause → Type 0) → Ending → Type 0
ByEnding going stopped (ending.Issued c) = going
ByEnding going stopped (ending.Stored c) = going
ByEnding going stopped (ending.Held h) = going
ByEnding going stopped (ending.Stopped c) = stopped c

-- a cycle leaves the pipe beside the plain machine from the same base
abbrev pub Held : Setting → Plain → Turn → Type 0
Held s base x = ByEnding (Runs s base x.pipe x.words) (λ c. Ends s base c x.pipe x.words) x.ending
