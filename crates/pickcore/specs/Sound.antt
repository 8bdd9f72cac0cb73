-- What holds of every core that was made by `new` or `load` and changed by calls alone.
use Rattle.std.specs.Prelude.{◌≡◌, ℕ, ◌+◌, ◌≤◌, Bool, true, false, ◌||◌, List, [], ◌∷◌, length, replicate, Some, None, Option, ◌==◌}
use denote.Struct.Props as logic
use Rattle.std.specs.List.{AllByRecursion}
use Rattle.isa.specs.Numbers.{cause_or_0}
use Rattle.recovery.specs.Meaning.{Entry, waiting}
use Rattle.pickcore.specs.declared.stages.Stage.{Stage}
use Rattle.pickcore.specs.Limits.{delays_fit, stretch}
use Rattle.pickcore.specs.Calls.{Machine}

-- every entry in flight has a counter of 16 bits
abbrev pub Counters : List Entry → Type 0
Counters es = AllByRecursion (λ (e : Entry). e.counter ≤ 65535) es

-- some stage has the tag
abbrev pub staged : ℕ → List (Option Stage) → Bool
staged t [] = false
staged t (None ∷ xs) = staged t xs
staged t (Some x ∷ xs) = x.tag == t || staged t xs

-- every taken stage has the tag of a pending entry, which no other stage has
abbrev pub Tied : List Entry → List (Option Stage) → Type 0
Tied es [] = Unit {0}
Tied es (None ∷ xs) = Tied es xs
Tied es (Some x ∷ xs) = (waiting x.tag es ≡ true) × (staged x.tag xs ≡ false) × Tied es xs

-- a fact, with one proof at most, as a ghost field has to be
pub Tied-prop : (es : List Entry) (xs : List (Option Stage)) → IsProp (Tied es xs)
Tied-prop es [] = Prim.hlevel logic.props
Tied-prop es (None ∷ xs) = Tied-prop es xs
Tied-prop es (Some x ∷ xs) = Prim.hlevel (logic.props, Tied-prop es xs)

pub record Sound (m : Machine) : Type 0 where
  -- a stopped core has nothing in flight and no stage taken
  pub idle : m.running ≡ false → (m.pipe.scheme.flight ≡ []) × (m.pipe.stages ≡ replicate 16 None)
  pub tied : Tied m.pipe.scheme.flight m.pipe.stages
  -- at most one instruction issues in a cycle, so that a run's count fits an image
  pub paced : m.running ≡ true → m.pipe.count + length m.pipe.scheme.flight ≤ m.cycles
  pub count : m.pipe.count ≤ stretch
  pub cycles : m.cycles ≤ stretch
  pub next : m.pipe.next ≤ 65535
  pub counters : Counters m.pipe.scheme.flight
  pub cause : cause_or_0 m.cause ≤ 8
  pub registers : length m.pipe.scheme.settled ≡ 16
  pub stages : length m.pipe.stages ≡ 16
  -- what load accepts
  pub delays : delays_fit m.delays ≡ true
  pub program : m.program_length ≤ 4096
  pub words : m.data_length ≤ 4096
