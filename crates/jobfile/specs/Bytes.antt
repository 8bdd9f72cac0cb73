-- Words of 32 bits as bytes, the lowest first.
use Rattle.std.specs.Prelude.{ℕ, ◌+◌, ◌*◌, ◌/◌, ◌%◌, ◌^◌, List, [], ◌∷◌}
use Rattle.std.specs.List.{flat_map}

abbrev pub word_of : ℕ → ℕ → ℕ → ℕ → ℕ
word_of a b c d = a + b * 2 ^ 8 + c * 2 ^ 16 + d * 2 ^ 24

-- the whole words at the front of some bytes
abbrev pub words_of : List ℕ → List ℕ
words_of [] = []
words_of (a ∷ []) = []
words_of (a ∷ (b ∷ [])) = []
words_of (a ∷ (b ∷ (c ∷ []))) = []
words_of (a ∷ (b ∷ (c ∷ (d ∷ rest)))) = word_of a b c d ∷ words_of rest

-- the bytes of a word, and of some words
abbrev pub bytes_of : ℕ → List ℕ
bytes_of w = w % 2 ^ 8 ∷ (w / 2 ^ 8 % 2 ^ 8 ∷ (w / 2 ^ 16 % 2 ^ 8 ∷ (w / 2 ^ 24 % 2 ^ 8 ∷ [])))

abbrev pub bytes_of_words : List ℕ → List ℕ
bytes_of_words ws = flat_map bytes_of ws
