-- The first line of a text, and the first word of some bytes.
use Rattle.std.proofs.Common.{◌≡◌, ℕ, ◌<◌, ◌≤◌, Bool, true, false, cond, not, List, [], ◌∷◌, length, drop, sym, refl, ap, ◌∙◌, arith, length-drop}
use Rattle.std.proofs.lemmas.List.{nil_from_length}
use Rattle.std.proofs.lemmas.Bool.{cond-true, cond-false, cond_both, not-true, not-false}
use Rattle.script.specs.Tokens.{newline, blank, inked, until, onward, in_front, pieces, not_empty, lines_of, words_in}

pub onward_length : (stop : ℕ → Bool) (xs : List ℕ) → length (onward stop xs) ≤ length xs
onward_length stop [] = omega arith
onward_length stop (x ∷ xs) = cond_both (stop x) (x ∷ xs) (onward stop xs) (λ ys. length ys ≤ length (x ∷ xs)) (λ e. omega arith) (λ e. omega (arith, onward_length stop xs))

-- the first piece, and the others behind the byte that ends it
pub first_piece : (ends : ℕ → Bool) (x : ℕ) (xs : List ℕ) → pieces ends (x ∷ xs) ≡ until ends (x ∷ xs) ∷ pieces ends (drop 1 (onward ends (x ∷ xs)))
first_piece ends x [] =
    elim (ends x) as (λ t. cond t ([] ∷ []) ((x ∷ []) ∷ []) ≡ cond t [] (x ∷ []) ∷ pieces ends (drop 1 (cond t (x ∷ []) []))) [ true ↦ refl | false ↦ refl ]
first_piece ends x (y ∷ ys) =
    let h = first_piece ends y ys in
    elim (ends x) as (λ t. cond t ([] ∷ pieces ends (y ∷ ys)) (in_front x (pieces ends (y ∷ ys))) ≡ cond t [] (x ∷ until ends (y ∷ ys)) ∷ pieces ends (drop 1 (cond t (x ∷ (y ∷ ys)) (onward ends (y ∷ ys)))))
    [ true ↦ refl | false ↦ ap (in_front x) h ]

-- blanks in front are no part of a word
pub skip_blanks : (xs : List ℕ) → words_in (onward inked xs) ≡ words_in xs
skip_blanks [] = refl
skip_blanks (x ∷ xs) =
    cond_both (not (blank x)) (x ∷ xs) (onward inked xs) (λ ys. words_in ys ≡ words_in (x ∷ xs)) (λ e. refl)
    (λ e. skip_blanks xs ∙ sym (ap not_empty (cond-true (blank x) ([] ∷ pieces blank xs) (in_front x (pieces blank xs)) (not-false (blank x) e))))

-- the blank that ends a word is no part of the next
behind_blank : (xs : List ℕ) → words_in (drop 1 (onward blank xs)) ≡ words_in (onward blank xs)
behind_blank [] = refl
behind_blank (x ∷ xs) =
    cond_both (blank x) (x ∷ xs) (onward blank xs) (λ ys. words_in (drop 1 ys) ≡ words_in ys)
    (λ e. sym (ap not_empty (cond-true (blank x) ([] ∷ pieces blank xs) (in_front x (pieces blank xs)) e)))
    (λ e. behind_blank xs)

word_here : (x : ℕ) (xs : List ℕ) → blank x ≡ false → words_in (x ∷ xs) ≡ until blank (x ∷ xs) ∷ words_in (onward blank (x ∷ xs))
word_here x xs e =
    let u : until blank (x ∷ xs) ≡ x ∷ until blank xs = cond-false (blank x) [] (x ∷ until blank xs) e in
    ap not_empty (first_piece blank x xs)
    ∙ (ap (λ p. not_empty (p ∷ pieces blank (drop 1 (onward blank (x ∷ xs))))) u
    ∙ (ap (λ ws. (x ∷ until blank xs) ∷ ws) (behind_blank (x ∷ xs)) ∙ ap (λ p. p ∷ words_in (onward blank (x ∷ xs))) (sym u)))

-- the first word, and how much is left behind it
abbrev pub FirstWord : List ℕ → Type 0
FirstWord xs = (words_in xs ≡ until blank xs ∷ words_in (onward blank xs)) × (length (onward blank xs) < length xs)

pub first_word : (xs : List ℕ) → 0 < length (onward inked xs) → FirstWord (onward inked xs)
first_word [] = λ h. absurd (omega arith)
first_word (x ∷ xs) =
    cond_both (not (blank x)) (x ∷ xs) (onward inked xs) (λ ys. 0 < length ys → FirstWord ys)
    (λ e h. let b = not-true (blank x) e in
    (word_here x xs b, let o : onward blank (x ∷ xs) ≡ onward blank xs = cond-false (blank x) (x ∷ xs) (onward blank xs) b in omega (arith, ap length o, onward_length blank xs)))
    (λ e. first_word xs)

-- the first line, and how much is left behind it
abbrev pub FirstLine : List ℕ → List ℕ → List ℕ → Type 0
FirstLine xs line rest = (lines_of xs ≡ line ∷ lines_of (drop 1 rest)) × (length (drop 1 rest) < length xs)

pub first_line : (xs line rest : List ℕ) → 0 < length xs → line ≡ until newline xs → rest ≡ onward newline xs → FirstLine xs line rest
first_line [] line rest h e k = absurd (omega arith)
first_line (x ∷ xs) line rest h e k = (
  first_piece newline x xs ∙ (ap (λ l. l ∷ lines_of (drop 1 (onward newline (x ∷ xs)))) (sym e) ∙ ap (λ r. line ∷ lines_of (drop 1 r)) (sym k)),
  omega (arith, ap length k, length-drop 1 rest, onward_length newline (x ∷ xs)),
)

-- nothing is left behind the end
pub drop_end : (xs : List ℕ) → length xs ≡ 0 → drop 1 xs ≡ xs
drop_end [] h = refl
drop_end (x ∷ xs) h = absurd (omega arith)

pub no_lines : (xs : List ℕ) → length xs ≡ 0 → lines_of xs ≡ []
no_lines xs h = ap lines_of (nil_from_length xs h)

pub no_words : (xs : List ℕ) → length xs ≡ 0 → words_in xs ≡ []
no_words xs h = ap words_in (nil_from_length xs h)
