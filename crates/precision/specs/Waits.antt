-- How many cycles can pass before the count rises or the core stops.
use Rattle.std.specs.Prelude.{◌≡◌, ℕ, zero, suc, ◌<◌, cond, List, [], ◌∷◌, Some, None, Option, ◌==◌}
use Rattle.recovery.specs.declared.Status.{Status}
use Rattle.recovery.specs.declared.Status.TheVariants.{Pending, Done, Faulted}
use Rattle.recovery.specs.Meaning.{Entry}
use Rattle.pickcore.specs.declared.stages.Stage.{Stage}
use Rattle.pickcore.specs.Cycle.{Turn}
use Rattle.precision.specs.Beside.{ByEnding}

-- no stage past the first n is taken
abbrev pub Within : ℕ → List (Option Stage) → Type 0
Within n [] = Unit {0}
Within zero (None ∷ xs) = Within zero xs
Within zero (Some x ∷ xs) = ⊥
Within (suc n) (x ∷ xs) = Within n xs

-- the index of the stage that has a tag
abbrev pub place : ℕ → List (Option Stage) → ℕ
place t [] = 0
place t (None ∷ xs) = suc (place t xs)
place t (Some x ∷ xs) = cond (x.tag == t) 0 (suc (place t xs))

-- the wait of an entry with this tag and status: until its stage is the first, or none
abbrev pub wait_for : List (Option Stage) → ℕ → Status → ℕ
wait_for xs t Pending = place t xs
wait_for xs t (Done w) = 0
wait_for xs t (Faulted f) = 0

-- the wait of a flight is that of its oldest entry; with nothing in flight it is the longest delay
abbrev pub wait_of : ℕ → List (Option Stage) → List Entry → ℕ
wait_of longest xs [] = longest
wait_of longest xs (e ∷ es) = wait_for xs e.tag e.status

-- a cycle that goes on with the count c has a wait below w, and takes no stage past the longest delay
abbrev pub Calm : ℕ → ℕ → ℕ → Turn → Type 0
Calm longest c w x = ByEnding ((x.pipe.count ≡ c → wait_of longest x.pipe.stages x.pipe.scheme.flight < w) × Within longest x.pipe.stages) (λ _. Unit {0}) x.ending
