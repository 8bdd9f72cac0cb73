-- The image of a state, and the state of an image.
use Rattle.std.specs.Prelude.{ℕ, ◌+◌, ◌/◌, ◌%◌, ◌^◌, cond, List, [], ◌∷◌, ◌++◌, length, take, drop, Some, None, Ok, Err, Option, Result, ◌==◌, nat_lt, slice_index}
use Rattle.isa.specs.declared.fault.Cause.{Cause}
use Rattle.isa.specs.declared.refusal.Refusal.{Refusal}
use Rattle.isa.specs.declared.refusal.Refusal.TheVariants.{Buffer, ImageLength, ImageWord}
use Rattle.isa.specs.Numbers.{cause_or_0}
use Rattle.images.specs.declared.read.BadWord.{BadWord}
use Rattle.images.specs.Causes.{cause_of}
use Rattle.images.specs.Words.{word_of, bad, then, value_read, half_read, register_read}

-- what an image holds
pub record Snapshot : Type 0 where
  pub registers : List ℕ
  pub counter : ℕ
  pub cause : Option Cause
  pub count : ℕ

-- the words of the registers from r on
abbrev pub register_words : ℕ → List ℕ → List ℕ
register_words r [] = []
register_words r (x ∷ xs) = word_of 1 r (x % 2 ^ 16) ∷ word_of 2 r (x / 2 ^ 16) ∷ register_words (r + 1) xs

-- the last word: the kind 15 and the number of words
abbrev pub end_word : ℕ
end_word = word_of 15 0 36

-- the words after the registers
abbrev pub tail_words : Snapshot → List ℕ
tail_words s = word_of 3 0 s.counter ∷ word_of 4 0 (cause_or_0 s.cause) ∷ word_of 5 0 s.count ∷ end_word ∷ []

-- the image of a state
abbrev pub image_words : Snapshot → List ℕ
image_words s = register_words 0 s.registers ++ tail_words s

-- the registers from r on, from the front of the words, two words for each
abbrev pub registers_read : ℕ → List ℕ → Result (List ℕ) BadWord
registers_read r [] = Ok []
registers_read r (w ∷ []) = Ok []
registers_read r (low ∷ (high ∷ rest)) =
    then (register_read low high r) (λ x. then (registers_read (r + 1) rest) (λ xs. Ok (x ∷ xs)))

-- these registers in place of those from r on
abbrev pub onto : List ℕ → ℕ → Result (List ℕ) BadWord → Result (List ℕ) BadWord
onto xs r (Ok ys) = Ok (take r xs ++ ys)
onto xs r (Err e) = Err e

-- the registers that a reading left, unless it met a bad word
abbrev pub with_registers : List ℕ → Result (Unit {0}) BadWord → Result (List ℕ) BadWord
with_registers xs (Ok u) = Ok xs
with_registers xs (Err e) = Err e

-- a cause that a number may name
abbrev pub named : Option (Option Cause) → Result (Option Cause) BadWord
named (Some c) = Ok c
named None = bad 33

-- the cause in the word 33
abbrev pub cause_read : ℕ → Result (Option Cause) BadWord
cause_read w = then (half_read w 4 0 33) (λ n. named (cause_of n))

-- the counter, the cause and the count in the words 32 to 34, before the end word
abbrev pub tail_read : ℕ → ℕ → ℕ → ℕ → Result (ℕ × Option Cause × ℕ) BadWord
tail_read counter cause count last =
    then (half_read counter 3 0 32) (λ n. then (cause_read cause) (λ c. then (value_read count 5 0 1000000 34) (λ m.
    cond (last == end_word) (Ok (n, c, m)) (bad 35))))

abbrev pub snapshot : List ℕ → ℕ × Option Cause × ℕ → Snapshot
snapshot xs t = record { registers = xs; counter = t.0; cause = t.1; count = t.2 }

-- the state of 36 words, or the first word that breaks its rule
abbrev pub state_read : List ℕ → Result Snapshot BadWord
state_read ws =
    then (registers_read 0 (take 32 ws)) (λ xs.
    then (tail_read (slice_index ws 32) (slice_index ws 33) (slice_index ws 34) (slice_index ws 35)) (λ t. Ok (snapshot xs t)))

-- a bad word refuses its image
abbrev pub refused : {X : Type 0} → Result X BadWord → Result X Refusal
refused (Ok x) = Ok x
refused (Err b) = Err (ImageWord b.index)

-- the state of an image: its length is looked at before its words
abbrev pub read_words : List ℕ → Result Snapshot Refusal
read_words ws = cond (length ws == 36) (refused (state_read ws)) (Err ImageLength)

-- writing refuses a buffer of under 36 words, which then stays as it is
abbrev pub write_answer : List ℕ → Result (Unit {0}) Refusal
write_answer before = cond (nat_lt (length before) 36) (Err Buffer) (Ok tt)

-- else it leaves the image and, after it, the words that were there
abbrev pub write_leaves : Snapshot → List ℕ → List ℕ
write_leaves s before = cond (nat_lt (length before) 36) before (image_words s ++ drop 36 before)
