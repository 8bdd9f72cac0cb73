-- The lines of a text, and the words of a line.
use Rattle.std.specs.Prelude.{◌≡◌, ℕ, Bool, cond, not, ◌||◌, List, [], ◌∷◌, ◌==◌}

-- a byte that ends a line
abbrev pub newline : ℕ → Bool
newline b = b == 10

-- a byte that starts a comment
abbrev pub hash : ℕ → Bool
hash b = b == 35

-- a byte that separates words: a space, a tab or a carriage return
abbrev pub blank : ℕ → Bool
blank b = b == 32 || (b == 9 || b == 13)

-- a byte of a word
abbrev pub inked : ℕ → Bool
inked b = not (blank b)

-- the bytes in front of the first that stops
abbrev pub until : (ℕ → Bool) → List ℕ → List ℕ
until stop [] = []
until stop (b ∷ bs) = cond (stop b) [] (b ∷ until stop bs)

-- the bytes from the first that stops
abbrev pub onward : (ℕ → Bool) → List ℕ → List ℕ
onward stop [] = []
onward stop (b ∷ bs) = cond (stop b) (b ∷ bs) (onward stop bs)

-- these are the bytes in front of the first that stops, and those from it on
abbrev pub SplitsWhere : (ℕ → Bool) → List ℕ → List ℕ → List ℕ → Type 0
SplitsWhere stop bytes front back = (front ≡ until stop bytes) × (back ≡ onward stop bytes)

-- a byte put in front of the first piece
abbrev pub in_front : ℕ → List (List ℕ) → List (List ℕ)
in_front b [] = (b ∷ []) ∷ []
in_front b (p ∷ ps) = (b ∷ p) ∷ ps

-- the pieces that the ending bytes end; what stands behind the last of these is a piece too, unless it is empty
abbrev pub pieces : (ℕ → Bool) → List ℕ → List (List ℕ)
pieces ends [] = []
pieces ends (b ∷ bs) = cond (ends b) ([] ∷ pieces ends bs) (in_front b (pieces ends bs))

-- the pieces that are not empty
abbrev pub not_empty : List (List ℕ) → List (List ℕ)
not_empty [] = []
not_empty ([] ∷ ps) = not_empty ps
not_empty ((b ∷ p) ∷ ps) = (b ∷ p) ∷ not_empty ps

-- the lines of a text
abbrev pub lines_of : List ℕ → List (List ℕ)
lines_of text = pieces newline text

-- the words of some bytes
abbrev pub words_in : List ℕ → List (List ℕ)
words_in bytes = not_empty (pieces blank bytes)

-- the words of a line: a comment is none of it
abbrev pub words_of : List ℕ → List (List ℕ)
words_of line = words_in (until hash line)
