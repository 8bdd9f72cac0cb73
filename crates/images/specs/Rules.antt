-- The rule of each word of an image, by the word's bits and its place.
use Rattle.std.specs.Prelude.{ℕ, ◌+◌, ◌/◌, ◌%◌, ◌^◌, Bool, cond, ◌&&◌, List, [], ◌∷◌, Some, None, Option, ◌==◌, nat_le, nat_lt}
use Rattle.isa.specs.declared.refusal.Refusal.{Refusal}
use Rattle.isa.specs.declared.refusal.Refusal.TheVariants.{ImageWord}

-- the kind k in bits 31 to 28, the register r in bits 27 to 24, and at most m in the bits below
abbrev pub holds : ℕ → ℕ → ℕ → ℕ → Bool
holds k r m w = w / 2 ^ 28 == k && (w / 2 ^ 24 % 16 == r && nat_le (w % 2 ^ 24) m)

-- the word at an index is as it has to be
abbrev pub keeps_rule : ℕ → ℕ → Bool
keeps_rule i w =
    cond (nat_lt i 32) (holds (i % 2 + 1) (i / 2) 65535 w)
    (cond (i == 32) (holds 3 0 65535 w)
    (cond (i == 33) (holds 4 0 8 w)
    (cond (i == 34) (holds 5 0 1000000 w) (w == 0xf0000024))))

-- the index of the first word that is not, where the first of the words has the index i
abbrev pub first_bad : ℕ → List ℕ → Option ℕ
first_bad i [] = None
first_bad i (w ∷ ws) = cond (keeps_rule i w) (first_bad (i + 1) ws) (Some i)

-- the refusal for a bad word, if there is one
abbrev pub refusal_for : Option ℕ → Option Refusal
refusal_for None = None
refusal_for (Some i) = Some (ImageWord i)
