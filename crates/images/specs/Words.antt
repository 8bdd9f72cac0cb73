-- The words of an image: the kind in bits 31 to 28, a register in bits 27 to 24, a value in bits 23 to 0.
use Rattle.std.specs.Prelude.{ℕ, ◌+◌, ◌*◌, ◌/◌, ◌%◌, ◌^◌, cond, ◌&&◌, Ok, Err, Result, ◌==◌, nat_le}
use Rattle.images.specs.declared.read.BadWord.{BadWord}

-- the word of a kind, a register and a value
abbrev pub word_of : ℕ → ℕ → ℕ → ℕ
word_of k r v = k * 2 ^ 28 + r * 2 ^ 24 + v

-- the word at an index breaks its rule
abbrev pub bad : {X : Type 0} → ℕ → Result X BadWord
bad i = Err (record { index = i })

-- what follows an Ok
abbrev pub then : {X Y E : Type 0} → Result X E → (X → Result Y E) → Result Y E
then (Ok x) f = f x
then (Err e) f = Err e

-- the value in a word that is to be of the kind k and the register r, with a value of at most m
abbrev pub value_read : ℕ → ℕ → ℕ → ℕ → ℕ → Result ℕ BadWord
value_read w k r m i = cond (w / 2 ^ 24 == k * 16 + r && nat_le (w % 2 ^ 24) m) (Ok (w % 2 ^ 24)) (bad i)

-- a value of 16 bits
abbrev pub half_read : ℕ → ℕ → ℕ → ℕ → Result ℕ BadWord
half_read w k r i = value_read w k r 65535 i

-- the register r, from its low half in the word 2r and its high half in the word 2r + 1
abbrev pub register_read : ℕ → ℕ → ℕ → Result ℕ BadWord
register_read low high r =
    then (half_read low 1 r (r * 2)) (λ l. then (half_read high 2 r (r * 2 + 1)) (λ h. Ok (h * 2 ^ 16 + l)))
