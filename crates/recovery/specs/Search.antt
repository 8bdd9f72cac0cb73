-- The last element of a list that passes a test, and its index.
use Rattle.std.specs.Prelude.{ℕ, ◌+◌, Bool, true, false, cond, List, [], ◌∷◌, Some, None, Option}

abbrev pub or_else : {A : Type 0} → Option A → Option A → Option A
or_else (Some x) y = Some x
or_else None y = y

-- the last that passes
abbrev pub last_of : {A : Type 0} → (A → Bool) → List A → Option A
last_of p [] = None
last_of p (x ∷ xs) = or_else (last_of p xs) (cond (p x) (Some x) None)

-- an index in the rest of a list, or else the front, by whether it passes
abbrev pub behind : Option ℕ → Bool → Option ℕ
behind (Some i) b = Some (i + 1)
behind None true = Some 0
behind None false = None

-- the index of the last that passes
abbrev pub last_index : {A : Type 0} → (A → Bool) → List A → Option ℕ
last_index p [] = None
last_index p (x ∷ xs) = behind (last_index p xs) (p x)
