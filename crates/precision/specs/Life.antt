-- The life of a core: what was done to it, one event after another, by the definitions of its calls.
use Rattle.std.specs.Prelude.{◌≡◌, ℕ, List, [], ◌∷◌, Some, None, Ok, Err}
use Rattle.isa.specs.declared.refusal.Refusal.{Refusal}
use Rattle.recovery.specs.declared.Timing.{Timing}
use Rattle.images.specs.Image.{Snapshot, read_words}
use Rattle.pickcore.specs.declared.record.CycleRecord.{CycleRecord}
use Rattle.pickcore.specs.Calls.{Machine, Steps, Runs, stopped_refusal, request_leaves, cut_leaves, amend_refusal, amend_leaves, take_up_refusal, take_up_leaves, resume_refusal, resume_leaves}

-- What was done: an accepted step, alone or in a run, with its record; an accepted cut; an accepted amend of a register
-- by a word; an accepted take-up of a state; an accepted resume at a counter. All else is `other`.
pub data Deed : Type 0 where
  step : CycleRecord → Deed
  cut : Deed
  amend : ℕ → ℕ → Deed
  take_up : Snapshot → Deed
  resume : ℕ → Deed
  other : Deed

-- one event: what was done, the core before it and after it, and the data words after it
pub record Event : Type 0 where
  pub deed : Deed
  pub before : Machine
  pub after : Machine
  pub words : List ℕ

-- all else: a question, a request, or a call that is declined, whatever it was lent
pub data Other (k : Timing) (m : Machine) : Machine → Type 0 where
  asked : Other k m m
  requested : Other k m (request_leaves m)
  step_declined : {n : Machine} (x : Refusal) (program words vs : List ℕ) → Steps k m program words (record { answer = Err x; machine = n; words = vs }) → Other k m n
  run_declined : {n : Machine} (x : Refusal) (program words vs : List ℕ) (before after : List CycleRecord) → Runs k program m words before (Err x) after n vs → Other k m n
  cut_declined : (x : Refusal) → stopped_refusal m ≡ Some x → Other k m (cut_leaves m)
  amend_declined : (x : Refusal) (register word : ℕ) → amend_refusal m register ≡ Some x → Other k m (amend_leaves m register word)
  take_up_declined : (x : Refusal) (image : List ℕ) → take_up_refusal m image ≡ Some x → Other k m (take_up_leaves m image)
  resume_declined : (x : Refusal) (counter : ℕ) → resume_refusal m counter ≡ Some x → Other k m (resume_leaves m counter)

-- How a deed turns the core m and the data words ws into n and vs. An accepted step is handed the program, and the data
-- words as they are; only a step moves them.
abbrev pub Happens : Timing → List ℕ → Machine → List ℕ → Deed → Machine → List ℕ → Type 0
Happens k program m ws (step r) n vs = Steps k m program ws (record { answer = Ok r; machine = n; words = vs })
Happens k program m ws cut n vs = (stopped_refusal m ≡ None) × (n ≡ cut_leaves m) × (vs ≡ ws)
Happens k program m ws (amend r w) n vs = (amend_refusal m r ≡ None) × (n ≡ amend_leaves m r w) × (vs ≡ ws)
Happens k program m ws (take_up s) n vs = (image : List ℕ) × (take_up_refusal m image ≡ None) × (read_words image ≡ Ok s) × (n ≡ take_up_leaves m image) × (vs ≡ ws)
Happens k program m ws (resume c) n vs = (resume_refusal m c ≡ None) × (n ≡ resume_leaves m c) × (vs ≡ ws)
Happens k program m ws other n vs = Other k m n × (vs ≡ ws)

-- some events, the newest first, that turned the core m and the data words ws into n and vs
pub data Life (k : Timing) (program : List ℕ) (m : Machine) (ws : List ℕ) : List Event → Machine → List ℕ → Type 0 where
  start : Life k program m ws [] m ws
  next : {es : List Event} {n o : Machine} {vs us : List ℕ} (d : Deed) → Life k program m ws es n vs → Happens k program n vs d o us
      → Life k program m ws (record { deed = d; before = n; after = o; words = us } ∷ es) o us
