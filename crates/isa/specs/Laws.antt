-- Each legal word means one instruction.
use Rattle.std.specs.Prelude.{◌≡◌, ℕ, ◌^◌, ◌<◌, Ok}
use Rattle.isa.specs.declared.words.Kind.{Kind}
use Rattle.isa.specs.Words.{decoded, encoded}

-- a word that reads, written again, is the same word
abbrev pub ReadThenWrite : Type 0
ReadThenWrite =
    (w : ℕ) (k : Kind) (d a b n : ℕ) → decoded w ≡ Ok (k, d, a, b, n) → encoded k d a b n ≡ Ok w

-- what is written reads back as it was; n is a number of 16 bits
abbrev pub WriteThenRead : Type 0
WriteThenRead =
    (k : Kind) (d a b n w : ℕ) → n < 2 ^ 16 → encoded k d a b n ≡ Ok w → decoded w ≡ Ok (k, d, a, b, n)
