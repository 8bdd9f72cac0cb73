-- The newest words, entry by entry.
use Rattle.std.proofs.Common.{◌≡◌, ℕ, ◌<◌, Bool, true, false, cond, ◌≢◌, List, [], ◌∷◌, ◌++◌, length, get_or, set, Some, None, Option, sym, refl, ap, ◌∙◌, ⊎_elim, arith}
use Rattle.std.proofs.lemmas.Bool.{eqb-false, eqb-true, cases_Bool}
use Rattle.std.proofs.lemmas.List.{length-set, set_comm, get_or-set_same, get_or-set_other}
use Rattle.recovery.specs.declared.Status.{Status}
use Rattle.recovery.specs.declared.Status.TheVariants.{Pending, Done, Faulted}
use Rattle.recovery.specs.Search.{or_else}
use Rattle.recovery.specs.Meaning.{Entry, is_register, names, youngest, unready, held_up, word_of, word_in, new_entry}
use Rattle.future.specs.Current.{put_done, current}

or_none : (o : Option Entry) (b : Bool) (e : Entry) → or_else o (cond b (Some e) None) ≡ None → (b ≡ false) × (o ≡ None)
or_none (Some x) b e h = grind arith
or_none None true e h = grind arith
or_none None false e h = (refl, refl)

-- a search that finds nothing passes the front, and finds nothing behind it
pub none_parts : (r : ℕ) (e : Entry) (es : List Entry) → youngest r (e ∷ es) ≡ None → (names r e ≡ false) × (youngest r es ≡ None)
none_parts r e es h = or_none (youngest r es) (names r e) e h

pub none_from : (r : ℕ) (e : Entry) (es : List Entry) → names r e ≡ false → youngest r es ≡ None → youngest r (e ∷ es) ≡ None
none_from r e es h k = ap (λ o. or_else o (cond (names r e) (Some e) None)) k ∙ ap (λ b. cond b (Some e) None) h

pub length_done : (ws : List ℕ) (d : Option ℕ) (s : Status) → length (put_done ws d s) ≡ length ws
length_done ws d Pending = refl
length_done ws None (Done w) = refl
length_done ws (Some r) (Done w) = length-set ws r w
length_done ws d (Faulted f) = refl

-- what an entry does to the words of another register
set_done : (ws : List ℕ) (d : Option ℕ) (s : Status) (r w : ℕ) → is_register d r ≡ false → put_done (set ws r w) d s ≡ set (put_done ws d s) r w
set_done ws d Pending r w h = refl
set_done ws None (Done v) r w h = refl
set_done ws (Some d) (Done v) r w h = let n : r ≢ d = λ q. eqb-false d r h (sym q) in set_comm ws r d w v n
set_done ws d (Faulted f) r w h = refl

done_kept : (ws : List ℕ) (d : Option ℕ) (s : Status) (r : ℕ) → is_register d r ≡ false → get_or (put_done ws d s) r 0 ≡ get_or ws r 0
done_kept ws d Pending r h = refl
done_kept ws None (Done v) r h = refl
done_kept ws (Some d) (Done v) r h = get_or-set_other ws d r v 0 (λ q. eqb-false d r h (sym q))
done_kept ws d (Faulted f) r h = refl

-- what a done entry does to the word of its own register
done_own : (ws : List ℕ) (d : Option ℕ) (s : Status) (r : ℕ) → r < length ws → is_register d r ≡ true → unready s ≡ false → get_or (put_done ws d s) r 0 ≡ word_of s
done_own ws d Pending r l t u = grind arith
done_own ws None (Done w) r l t u = grind arith
done_own ws (Some d) (Done w) r l t u = ap (λ n. get_or (set ws n w) r 0) (eqb-true d r t) ∙ get_or-set_same ws r w 0 l
done_own ws d (Faulted f) r l t u = grind arith

-- a write to a register that no entry names goes through
pub current_set : (r w : ℕ) (es : List Entry) (ws : List ℕ) → youngest r es ≡ None → current (set ws r w) es ≡ set (current ws es) r w
current_set r w [] ws h = refl
current_set r w (e ∷ es) ws h =
    let p = none_parts r e es h in
    ap (λ vs. current vs es) (set_done ws e.destination e.status r w p.0) ∙ current_set r w es (put_done ws e.destination e.status) p.1

-- an entry that is just admitted changes no word
pub current_new : (t c : ℕ) (d : Option ℕ) (es : List Entry) (ws : List ℕ) → current ws (es ++ (new_entry t c d ∷ [])) ≡ current ws es
current_new t c None [] ws = refl
current_new t c (Some r) [] ws = refl
current_new t c d (e ∷ es) ws = current_new t c d es (put_done ws e.destination e.status)

-- what holds a register up among the younger entries holds it up
pub held_rest : (o p : Option Entry) → held_up (or_else o p) ≡ false → held_up o ≡ false
held_rest (Some x) p h = h
held_rest None p h = refl

-- the word of a register after one entry that does not hold it up
done_read : (ws : List ℕ) (e : Entry) (r : ℕ) → r < length ws → held_up (cond (names r e) (Some e) None) ≡ false → get_or (put_done ws e.destination e.status) r 0 ≡ word_in (cond (names r e) (Some e) None) (get_or ws r 0)
done_read ws e r l h =
    ⊎_elim
    (λ t. done_own ws e.destination e.status r l t (sym (ap (λ b. held_up (cond b (Some e) None)) t) ∙ h) ∙ sym (ap (λ b. word_in (cond b (Some e) None) (get_or ws r 0)) t))
    (λ f. done_kept ws e.destination e.status r f ∙ sym (ap (λ b. word_in (cond b (Some e) None) (get_or ws r 0)) f))
    (cases_Bool (names r e))

front_read : (ws : List ℕ) (e : Entry) (r v : ℕ) (o : Option Entry) → r < length ws → v ≡ word_in o (get_or (put_done ws e.destination e.status) r 0) → held_up (or_else o (cond (names r e) (Some e) None)) ≡ false → v ≡ word_in (or_else o (cond (names r e) (Some e) None)) (get_or ws r 0)
front_read ws e r v (Some x) l q h = q
front_read ws e r v None l q h = q ∙ done_read ws e r l h

-- the newest word of a register that is not awaited is that of the youngest entry naming it, or else the settled one
pub current_read : (r : ℕ) (es : List Entry) (ws : List ℕ) → r < length ws → held_up (youngest r es) ≡ false → get_or (current ws es) r 0 ≡ word_in (youngest r es) (get_or ws r 0)
current_read r [] ws l h = refl
current_read r (e ∷ es) ws l h =
    let k : r < length (put_done ws e.destination e.status) = omega (arith, length_done ws e.destination e.status) in
    front_read ws e r (get_or (current (put_done ws e.destination e.status) es) r 0) (youngest r es) l
    (current_read r es (put_done ws e.destination e.status) k (held_rest (youngest r es) (cond (names r e) (Some e) None) h)) h
