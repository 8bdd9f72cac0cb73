-- A call as a script asks for it.
use Rattle.std.specs.Prelude.{ℕ, ◌+◌, Bool, false, cond, ◌&&◌, List, [], ◌∷◌, Some, None, Ok, Err, codes, Option, Result, nat_le}
use Rattle.std.specs.Str.{bytes_eq}
use Rattle.script.specs.declared.keyword.Keyword.{Keyword}
use Rattle.script.specs.declared.keyword.Keyword.TheVariants as key
use Rattle.script.specs.Tokens.{words_of}
use Rattle.script.specs.Numerals.{numbers_of}
use Rattle.script.specs.Keywords.{keyword_of}

-- one call, with its numbers
pub data Asked : Type 0 where
  step : Asked
  run : ℕ → Asked
  request : Asked
  cut : Asked
  amend : ℕ → ℕ → Asked
  take_up : List ℕ → Asked
  take_up_image : Asked
  resume : ℕ → Asked
  report : Asked
  registers : Asked
  image : Asked
  data_words : Asked

-- a call that takes no number
abbrev pub bare_call : Asked → List ℕ → Option Asked
bare_call a [] = Some a
bare_call a (n ∷ ns) = None

-- a run of at most a million cycles
abbrev pub run_call : List ℕ → Option Asked
run_call [] = None
run_call (n ∷ []) = cond (nat_le n 1000000) (Some (run n)) None
run_call (n ∷ (m ∷ ns)) = None

-- a resume at a counter
abbrev pub resume_call : List ℕ → Option Asked
resume_call [] = None
resume_call (n ∷ []) = Some (resume n)
resume_call (n ∷ (m ∷ ns)) = None

-- an amend of a register by a word
abbrev pub amend_call : List ℕ → Option Asked
amend_call [] = None
amend_call (r ∷ []) = None
amend_call (r ∷ (w ∷ [])) = Some (amend r w)
amend_call (r ∷ (w ∷ (n ∷ ns))) = None

-- the call of a keyword with the numbers behind it
abbrev pub call_with : Keyword → List ℕ → Option Asked
call_with key.Step ns = bare_call step ns
call_with key.Run ns = run_call ns
call_with key.Request ns = bare_call request ns
call_with key.Cut ns = bare_call cut ns
call_with key.Amend ns = amend_call ns
call_with key.TakeUp ns = Some (take_up ns)
call_with key.Resume ns = resume_call ns
call_with key.Report ns = bare_call report ns
call_with key.Registers ns = bare_call registers ns
call_with key.Image ns = bare_call image ns
call_with key.Data ns = bare_call data_words ns

-- the same, where there is a keyword and every word behind it is a number
abbrev pub call_by : Option Keyword → Option (List ℕ) → Option Asked
call_by None o = None
call_by (Some k) None = None
call_by (Some k) (Some ns) = call_with k ns

-- the two words `take-up image`
abbrev pub takes_image : List ℕ → List (List ℕ) → Bool
takes_image w [] = false
takes_image w (v ∷ []) = bytes_eq w (codes "take-up") && bytes_eq v (codes "image")
takes_image w (v ∷ (u ∷ us)) = false

-- the call that the words of a line ask for, if they ask for one
abbrev pub call_of : List (List ℕ) → Option Asked
call_of [] = None
call_of (w ∷ ws) = cond (takes_image w ws) (Some take_up_image) (call_by (keyword_of w) (numbers_of ws))

-- the call of line n in front of later ones, or n
abbrev pub with_call : ℕ → Option Asked → Result (List Asked) ℕ → Result (List Asked) ℕ
with_call n None later = Err n
with_call n (Some a) (Ok more) = Ok (a ∷ more)
with_call n (Some a) (Err m) = Err m

-- the call of line n, if it has words, in front of later ones
abbrev pub calls_from : ℕ → List (List ℕ) → Result (List Asked) ℕ → Result (List Asked) ℕ
calls_from n [] later = later
calls_from n (w ∷ ws) later = with_call n (call_of (w ∷ ws)) later

-- the calls of lines that are numbered from n, or the number of the first line that is none
abbrev pub calls_of : ℕ → List (List ℕ) → Result (List Asked) ℕ
calls_of n [] = Ok []
calls_of n (l ∷ ls) = calls_from n (words_of l) (calls_of (n + 1) ls)
