-- The calls of a script, read line by line.
use Rattle.std.proofs.Common.{◌≡◌, ℕ, ◌+◌, ◌<◌, ◌≤◌, List, [], ◌∷◌, ◌++◌, length, Some, None, Ok, Err, Option, Result, sym, refl, ap, ◌∙◌, subst, append_assoc, append-nil, arith}
use Rattle.std.proofs.lemmas.List.{nil_from_length}
use Rattle.std.specs.Result.{IsErrAnd}
use Rattle.script.specs.declared.error.ReadError.{ReadError}
use Rattle.script.specs.declared.error.ReadError.TheVariants as error
use Rattle.script.specs.Told.{Says, Reads}
use Rattle.script.specs.Tokens.{words_of}
use Rattle.script.specs.Found.{Found, found_at, next_line}
use Rattle.script.specs.Calls.{Asked, call_of, with_call, calls_from, calls_of}

-- the calls from a line on
abbrev pub calls_found : Found → Result (List Asked) ℕ
calls_found f = calls_from f.number f.words (calls_of f.next f.rest)

-- later calls behind those that were read
abbrev pub behind : List Asked → Result (List Asked) ℕ → Result (List Asked) ℕ
behind before (Ok more) = Ok (before ++ more)
behind before (Err n) = Err n

-- how many lines may be left, with this one
abbrev pub weight : List (List ℕ) → ℕ
weight [] = 0
weight (w ∷ ws) = 1

abbrev pub left : Found → ℕ
left f = weight f.words + length f.rest

calls_here : (n : ℕ) (ws ls : List (List ℕ)) → calls_of (n + 1) ls ≡ calls_found (next_line (n + 1) ls) → calls_from n ws (calls_of (n + 1) ls) ≡ calls_found (found_at n ws ls (next_line (n + 1) ls))
calls_here n [] ls h = h
calls_here n (w ∷ ws) ls h = refl

pub calls_next : (n : ℕ) (ls : List (List ℕ)) → calls_of n ls ≡ calls_found (next_line n ls)
calls_next n [] = refl
calls_next n (l ∷ ls) = calls_here n (words_of l) ls (calls_next (n + 1) ls)

left_here : (n : ℕ) (ws ls : List (List ℕ)) → left (next_line (n + 1) ls) ≤ length ls → left (found_at n ws ls (next_line (n + 1) ls)) ≤ length ls + 1
left_here n [] ls h = omega arith
left_here n (w ∷ ws) ls h = omega arith

left_next : (n : ℕ) (ls : List (List ℕ)) → left (next_line n ls) ≤ length ls
left_next n [] = omega arith
left_next n (l ∷ ls) = omega (arith, left_here n (words_of l) ls (left_next (n + 1) ls))

weight_some : (ws : List (List ℕ)) → 0 < length ws → weight ws ≡ 1
weight_some [] h = absurd (omega arith)
weight_some (w ∷ ws) h = refl

-- a line with words is followed by fewer
pub left_less : (f g : Found) → 0 < length f.words → g ≡ next_line f.next f.rest → left g < left f
left_less f g h e = omega (arith, ap left e, left_next f.next f.rest, weight_some f.words h)

ended_here : (n : ℕ) (ws ls : List (List ℕ)) → (length (next_line (n + 1) ls).words ≡ 0 → length (next_line (n + 1) ls).rest ≡ 0)
    → length (found_at n ws ls (next_line (n + 1) ls)).words ≡ 0 → length (found_at n ws ls (next_line (n + 1) ls)).rest ≡ 0
ended_here n [] ls h = h
ended_here n (w ∷ ws) ls h = λ e. absurd (omega arith)

-- where no line is found, none is left
pub ended : (n : ℕ) (ls : List (List ℕ)) → length (next_line n ls).words ≡ 0 → length (next_line n ls).rest ≡ 0
ended n [] = λ e. refl
ended n (l ∷ ls) = ended_here n (words_of l) ls (ended (n + 1) ls)

from_some : (n : ℕ) (ws : List (List ℕ)) (later : Result (List Asked) ℕ) → 0 < length ws → calls_from n ws later ≡ with_call n (call_of ws) later
from_some n [] later h = absurd (omega arith)
from_some n (w ∷ ws) later h = refl

pub behind_none : (r : Result (List Asked) ℕ) → behind [] r ≡ r
behind_none (Ok more) = refl
behind_none (Err n) = refl

behind_more : (before : List Asked) (a : Asked) (n : ℕ) (later : Result (List Asked) ℕ) → behind (before ++ (a ∷ [])) later ≡ behind before (with_call n (Some a) later)
behind_more before a n (Ok more) = ap Ok (append_assoc before (a ∷ []) more)
behind_more before a n (Err m) = refl

-- one call more
pub call_more : (f g : Found) (before new : List Asked) (a : Asked) → 0 < length f.words → Some a ≡ call_of f.words → g ≡ next_line f.next f.rest → new ≡ before ++ (a ∷ [])
    → behind new (calls_found g) ≡ behind before (calls_found f)
call_more f g before new a h e k p =
    ap (λ xs. behind xs (calls_found g)) p
    ∙ (ap (λ x. behind (before ++ (a ∷ [])) (calls_found x)) k
    ∙ (ap (behind (before ++ (a ∷ []))) (sym (calls_next f.next f.rest))
    ∙ (behind_more before a f.number (calls_of f.next f.rest)
    ∙ (ap (λ o. behind before (with_call f.number o (calls_of f.next f.rest))) e
    ∙ ap (behind before) (sym (from_some f.number f.words (calls_of f.next f.rest) h))))))

-- a line that is no call
pub call_none : (f : Found) (before : List Asked) → 0 < length f.words → None ≡ call_of f.words → Err f.number ≡ behind before (calls_found f)
call_none f before h e =
    sym (ap (behind before) (from_some f.number f.words (calls_of f.next f.rest) h) ∙ ap (λ o. behind before (with_call f.number o (calls_of f.next f.rest))) (sym e))

-- no line is left
pub calls_end : (f : Found) (before : List Asked) → length f.words ≡ 0 → length f.rest ≡ 0 → Ok before ≡ behind before (calls_found f)
calls_end f before h k =
    sym (ap (λ ws. behind before (calls_from f.number ws (calls_of f.next f.rest))) (nil_from_length f.words h)
    ∙ (ap (λ ls. behind before (calls_of f.next ls)) (nil_from_length f.rest k) ∙ ap Ok (append-nil before)))

-- a text whose first line that is not right is one that does not say what it should
pub wrong_line : {A B C D : Type 0} (told : A → B) (reads : C → D) (n : ℕ) (says : Option B) (holds : Result D ℕ) (e : ReadError) (r : Result C ReadError) → Says told n says (Err e) → IsErrAnd r (λ x. x ≡ e) → (says ≡ None → Err n ≡ holds)
    → Reads reads holds r
wrong_line told reads n says holds e (Ok x) s i k = absurd i
wrong_line told reads n says holds e (Err x) s i k = subst (λ y. Reads reads holds (Err y)) (sym i) (go e s)
  where
    go : (e : ReadError) → Says told n says (Err e) → Reads reads holds (Err e)
    go (error.Line m) s = ap Err s.1 ∙ k s.0
    go error.OutOfMemory s = tt
