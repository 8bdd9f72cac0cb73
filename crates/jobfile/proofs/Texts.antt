-- Texts that are made line by line.
use Rattle.std.proofs.Common.{◌≡◌, ℕ, ◌+◌, ◌<◌, List, [], ◌∷◌, ◌++◌, length, get_or, take, sym, ap, ◌∙◌, append_assoc, append-nil, arith, length-take}
use Rattle.std.proofs.lemmas.List.{take_more}
use Rattle.jobfile.specs.Lines.{numbered}

numbered_append : {A : Type 0} (line : ℕ → A → List ℕ) (n i : ℕ) (xs : List A) (x : A) → i ≡ n + length xs → numbered line n (xs ++ (x ∷ [])) ≡ numbered line n xs ++ line i x
numbered_append line n i [] x e = append-nil (line n x) ∙ ap (λ m. line m x) (omega arith)
numbered_append line n i (y ∷ ys) x e = ap (λ bs. line n y ++ bs) (numbered_append line (n + 1) i ys x (omega arith)) ∙ sym (append_assoc (line n y) (numbered line (n + 1) ys) (line i x))

-- one line more, whose number is m
pub line_more : {A : Type 0} (line : ℕ → A → List ℕ) (n m i : ℕ) (xs : List A) (d : A) (start old new : List ℕ) → i < length xs → m ≡ n + i → old ≡ start ++ numbered line n (take i xs) → new ≡ old ++ line m (get_or xs i d)
    → new ≡ start ++ numbered line n (take (i + 1) xs)
line_more line n m i xs d start old new h e o k =
    k ∙ (ap (λ x. x ++ line m (get_or xs i d)) o
    ∙ (append_assoc start (numbered line n (take i xs)) (line m (get_or xs i d))
    ∙ ap (λ x. start ++ x) (sym (numbered_append line n m (take i xs) (get_or xs i d) (omega (arith, length-take i xs))) ∙ ap (numbered line n) (sym (take_more xs i d h)))))

-- one text pushed behind another
pub push_then : (s t u a b : List ℕ) → t ≡ s ++ a → u ≡ t ++ b → u ≡ s ++ (a ++ b)
push_then s t u a b h k = k ∙ (ap (λ x. x ++ b) h ∙ append_assoc s a b)
