use Rattle.std.proofs.Common.{◌≡◌, ◌++◌, length, vec_items}
use Rattle.std.specs.Option.{option_map}
use Rattle.script.specs.Tokens.{words_in}
use Rattle.script.specs.Numerals.{numbers_of}
use Rattle.script.proofs.numbers.numbers_in.Given as goal

-- the numbers so far, and those to come
abbrev pub invariant-loop-word : goal.invariant-loop-word
invariant-loop-word l = option_map (λ ns. vec_items l.numbers ++ ns) (numbers_of (words_in l.rest)) ≡ numbers_of (words_in l.bytes)

abbrev pub decreases-loop-word : goal.decreases-loop-word
decreases-loop-word l = length l.rest
