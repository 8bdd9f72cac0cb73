use Rattle.std.proofs.Common.{◌≡◌, length, take}
use Rattle.std.specs.List.{flat_map}
use Rattle.printing.specs.Lines.{words_text}
use Rattle.printing.proofs.parts.spaced_words.Given as goal

-- the first places of the room are the text of as many words
abbrev pub invariant-loop-at : goal.invariant-loop-at
invariant-loop-at l = (length l.room ≡ 16) × (flat_map (λ x. x) (take l.at l.room) ≡ words_text (take l.at l.words))
