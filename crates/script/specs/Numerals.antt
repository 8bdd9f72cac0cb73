-- Numbers as words.
use Rattle.std.specs.Prelude.{ℕ, ◌+◌, ◌*◌, ◌^◌, cond, ◌&&◌, List, [], ◌∷◌, Some, None, Option, ◌==◌, nat_lt}
use Rattle.std.specs.Char.{digit_value}
use Rattle.std.specs.Str.{bytes_eq}

-- the value of digits behind those that were worth v, if each is a digit of the base
abbrev pub value_from : ℕ → ℕ → List ℕ → Option ℕ
value_from base v [] = Some v
value_from base v (b ∷ bs) = cond (nat_lt (digit_value b) base) (value_from base (v * base + digit_value b) bs) None

-- a value of 32 bits
abbrev pub fitting : Option ℕ → Option ℕ
fitting None = None
fitting (Some v) = cond (nat_lt v (2 ^ 32)) (Some v) None

-- the number that some digits write, at least one
abbrev pub numeral : ℕ → List ℕ → Option ℕ
numeral base [] = None
numeral base (b ∷ bs) = fitting (value_from base 0 (b ∷ bs))

-- the number that a word is: hexadecimal behind `0x`, else decimal
abbrev pub number_of : List ℕ → Option ℕ
number_of [] = None
number_of (a ∷ []) = numeral 10 (a ∷ [])
number_of (a ∷ (b ∷ bs)) = cond (a == 48 && b == 120) (numeral 16 bs) (numeral 10 (a ∷ (b ∷ bs)))

-- one number more in front
abbrev pub with_number : Option ℕ → Option (List ℕ) → Option (List ℕ)
with_number None o = None
with_number (Some n) None = None
with_number (Some n) (Some ns) = Some (n ∷ ns)

-- the numbers that words are, if each is one
abbrev pub numbers_of : List (List ℕ) → Option (List ℕ)
numbers_of [] = Some []
numbers_of (w ∷ ws) = with_number (number_of w) (numbers_of ws)

-- the numbers behind a line's first word, if that is the key
abbrev pub numbers_behind : List ℕ → List (List ℕ) → Option (List ℕ)
numbers_behind key [] = None
numbers_behind key (w ∷ ws) = cond (bytes_eq w key) (numbers_of ws) None
