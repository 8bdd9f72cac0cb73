-- The next line that says something, and the numbers of a line.
use Rattle.std.proofs.Common.{◌≡◌, ℕ, ◌+◌, ◌<◌, List, [], ◌∷◌, ◌++◌, length, Some, None, Option, sym, refl, ap, ◌∙◌, append_assoc, arith}
use Rattle.std.specs.Option.{option_map}
use Rattle.script.specs.Tokens.{lines_of, words_in, words_of}
use Rattle.script.specs.Found.{Found, found_at, next_line}
use Rattle.script.specs.Numerals.{number_of, with_number, numbers_of}

-- a line without words is passed
pub line_passed : (n : ℕ) (text line behind : List ℕ) → lines_of text ≡ line ∷ lines_of behind → words_of line ≡ [] → next_line n (lines_of text) ≡ next_line (n + 1) (lines_of behind)
line_passed n text line behind e w = ap (next_line n) e ∙ ap (λ ws. found_at n ws (lines_of behind) (next_line (n + 1) (lines_of behind))) w

found_some : (n : ℕ) (ws rest : List (List ℕ)) (later : Found) → 0 < length ws → found_at n ws rest later ≡ record { number = n; words = ws; next = n + 1; rest = rest }
found_some n [] rest later h = absurd (omega arith)
found_some n (w ∷ ws) rest later h = refl

-- a line with words is the one
pub line_found : (n : ℕ) (text line code behind : List ℕ) → lines_of text ≡ line ∷ lines_of behind → words_in code ≡ words_of line → 0 < length (words_of line)
    → record { number = n; words = words_in code; next = n + 1; rest = lines_of behind } ≡ next_line n (lines_of text)
line_found n text line code behind e w h =
    ap {B = Found} (λ ws. record { number = n; words = ws; next = n + 1; rest = lines_of behind }) w
    ∙ sym (ap (next_line n) e ∙ found_some n (words_of line) (lines_of behind) (next_line (n + 1) (lines_of behind)) h)

-- behind the last line there is nothing
pub lines_end : (n : ℕ) (text : List ℕ) → length text ≡ 0 → record { number = n; words = words_in text; next = n; rest = lines_of text } ≡ next_line n (lines_of text)
lines_end n [] h = refl
lines_end n (x ∷ xs) h = absurd (omega arith)

number_more : (old : List ℕ) (n : ℕ) (o : Option (List ℕ)) → option_map (λ ns. (old ++ (n ∷ [])) ++ ns) o ≡ option_map (λ ns. old ++ ns) (with_number (Some n) o)
number_more old n None = refl
number_more old n (Some ns) = ap Some (append_assoc old (n ∷ []) ns)

-- one word more that is a number
pub word_more : (old new word rest behind : List ℕ) (n : ℕ) → words_in rest ≡ word ∷ words_in behind → Some n ≡ number_of word → new ≡ old ++ (n ∷ [])
    → option_map (λ ns. new ++ ns) (numbers_of (words_in behind)) ≡ option_map (λ ns. old ++ ns) (numbers_of (words_in rest))
word_more old new word rest behind n e k p =
    ap (λ xs. option_map (λ ns. xs ++ ns) (numbers_of (words_in behind))) p
    ∙ (number_more old n (numbers_of (words_in behind))
    ∙ (ap (λ o. option_map (λ ns. old ++ ns) (with_number o (numbers_of (words_in behind)))) k ∙ ap (λ ws. option_map (λ ns. old ++ ns) (numbers_of ws)) (sym e)))
