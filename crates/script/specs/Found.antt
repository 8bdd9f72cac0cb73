-- The lines that say something, with their numbers.
use Rattle.std.specs.Prelude.{ℕ, ◌+◌, List, [], ◌∷◌}
use Rattle.script.specs.Tokens.{words_of}

-- a line: its number and words, and the number and the lines behind it
pub record Found : Type 0 where
  pub number : ℕ
  pub words : List (List ℕ)
  pub next : ℕ
  pub rest : List (List ℕ)

-- the n-th line if it has words, else a later one
abbrev pub found_at : ℕ → List (List ℕ) → List (List ℕ) → Found → Found
found_at n [] rest later = later
found_at n (w ∷ ws) rest later = record { number = n; words = w ∷ ws; next = n + 1; rest = rest }

-- the first line with words, of lines that are numbered from n; at the end no words, and the number behind the last line
abbrev pub next_line : ℕ → List (List ℕ) → Found
next_line n [] = record { number = n; words = []; next = n; rest = [] }
next_line n (l ∷ ls) = found_at n (words_of l) ls (next_line (n + 1) ls)
