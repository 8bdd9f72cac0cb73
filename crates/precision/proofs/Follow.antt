-- The words that a new instruction reads past a flight are those of the plain machine once it has taken the flight's steps.
use Rattle.std.proofs.Common.{◌≡◌, ℕ, Bool, true, false, cond, ltb, List, [], ◌∷◌, ◌++◌, length, get_or, is_some, Some, None, Ok, Err, Option, sym, refl, ap, ◌∙◌, arith, length-set}
use Rattle.std.proofs.lemmas.Bool.{eqb-true, eqb-false}
use Rattle.std.proofs.lemmas.List.{get_or-set_same, get_or-set_other}
use Rattle.isa.specs.declared.fault.Fault.{Fault}
use Rattle.isa.specs.Table.{Instr}
use Rattle.isa.specs.Plain.{Plain, reads, executed}
use Rattle.recovery.specs.declared.Status.{Status}
use Rattle.recovery.specs.declared.Status.TheVariants.{Pending, Done, Faulted}
use Rattle.recovery.specs.declared.Timing.{Timing}
use Rattle.recovery.specs.declared.Timing.TheVariants.{Early, Late}
use Rattle.recovery.specs.Meaning.{Meaning, Entry, is_register, names, youngest, unready, held_up, word_of, word_in, look_answer, put}
use Rattle.recovery.specs.Search.{or_else}
use Rattle.pickcore.specs.declared.stages.Stage.{Stage}
use Rattle.pickcore.specs.Cycle.{both, looks}
use Rattle.precision.specs.Beside.{fate, foreseen, Settles, Follows, end, trap, on}
use Rattle.precision.proofs.Plan.{fate_known}

-- a word that is put into its register

put_same : (r w : ℕ) (d : Option ℕ) (xs : List ℕ) → is_register d r ≡ true → Settles d → length xs ≡ 16 → get_or (put xs d w) r 0 ≡ w
put_same r w None xs h m l = let z : ◌≡◌ {A = ℕ} 0 1 = cc in absurd (omega arith)
put_same r w (Some d) xs h m l = let e = eqb-true d r h in rw (← e) (get_or-set_same xs d w 0 (omega arith))

put_other : (r w : ℕ) (d : Option ℕ) (xs : List ℕ) → is_register d r ≡ false → get_or (put xs d w) r 0 ≡ get_or xs r 0
put_other r w None xs h = refl
put_other r w (Some d) xs h = get_or-set_other xs d r w 0 (λ e. eqb-false d r h (sym e))

pub length_put : (xs : List ℕ) (d : Option ℕ) (w : ℕ) → length (put xs d w) ≡ length xs
length_put xs None w = refl
length_put xs (Some d) w = length-set xs d w

-- a look, by its parts: the mark, whether it is at a register, the youngest entry that names it, and its settled word

abbrev awaits : Timing → Bool → Option Entry → Bool
awaits Early b o = cond b (held_up o) true
awaits Late b o = cond b (is_some o) true

abbrev look_by : Timing → Bool → Option Entry → ℕ → Option ℕ
look_by k b o x = cond (awaits k b o) None (Some (word_in o x))

look_is : (k : Timing) (m : Meaning) (r : ℕ) → look_answer k m r ≡ look_by k (ltb r 16) (youngest r m.flight) (get_or m.settled r 0)
look_is Early m r = refl
look_is Late m r = refl

ready_word : (y : Status) (x : ℕ) → cond (unready y) None (Some (word_of y)) ≡ Some x → y ≡ Done x
ready_word Pending x h = let z : ◌≡◌ {A = ℕ} 0 1 = cc in absurd (omega arith)
ready_word (Done w) x h = cc
ready_word (Faulted f) x h = let z : ◌≡◌ {A = ℕ} 0 1 = cc in absurd (omega arith)

settled_word : (k : Timing) (b : Bool) (w x : ℕ) → look_by k b None w ≡ Some x → w ≡ x
settled_word Early true w x h = cc
settled_word Early false w x h = let z : ◌≡◌ {A = ℕ} 0 1 = cc in absurd (omega arith)
settled_word Late true w x h = cc
settled_word Late false w x h = let z : ◌≡◌ {A = ℕ} 0 1 = cc in absurd (omega arith)

-- once the oldest entry, done with the word w, is settled, a look gives what it gave
module _ (e : Entry) (w : ℕ) (xs : List (Option Stage)) (ws : List ℕ) (comes : fate xs e.tag e.status ≡ Done w) (settles : Settles e.destination) (wide : length ws ≡ 16) where
  -- the entry names the register, as the only one
  named_past : (k : Timing) (b : Bool) (r x : ℕ) → names r e ≡ true → look_by k b (Some e) (get_or ws r 0) ≡ Some x → look_by k b None (get_or (put ws e.destination w) r 0) ≡ Some x
  named_past Early true r x n h =
      let v = ready_word e.status x h in
      let f = fate_known xs e.tag (Done x) refl in
      let c = rw v at comes in
      let same : w ≡ x = cc in
      ap (λ u. Some u) (put_same r w e.destination ws n settles wide ∙ same)
  named_past Early false r x n h = h
  named_past Late true r x n h = let z : ◌≡◌ {A = ℕ} 0 1 = cc in absurd (omega arith)
  named_past Late false r x n h = h

  past : (k : Timing) (b : Bool) (r x : ℕ) (o : Option Entry) (n : Bool) → names r e ≡ n → look_by k b (or_else o (cond n (Some e) None)) (get_or ws r 0) ≡ Some x
      → look_by k b o (get_or (put ws e.destination w) r 0) ≡ Some x
  past Early b r x (Some y) n q h = h
  past Late b r x (Some y) n q h = h
  past k b r x None true q h = named_past k b r x q h
  past k b r x None false q h = rw (put_other r w e.destination ws q) h

  look_past : (k : Timing) (c : ℕ) (es : List Entry) (r x : ℕ) → look_answer k (record { settled = ws; capacity = c; flight = e ∷ es }) r ≡ Some x
      → look_answer k (record { settled = put ws e.destination w; capacity = c; flight = es }) r ≡ Some x
  look_past k c es r x h =
      look_is k (record { settled = put ws e.destination w; capacity = c; flight = es }) r
      ∙ past k (ltb r 16) r x (youngest r es) (names r e) refl (sym (look_is k (record { settled = ws; capacity = c; flight = e ∷ es }) r) ∙ h)

-- several sources

both_some : (a : Option ℕ) (b : Option (List ℕ)) (vs : List ℕ) → both a b ≡ Some vs → (x : ℕ) × (ys : List ℕ) × (a ≡ Some x) × (b ≡ Some ys) × (x ∷ ys ≡ vs)
both_some None b vs h = let z : ◌≡◌ {A = ℕ} 0 1 = cc in absurd (omega arith)
both_some (Some x) None vs h = let z : ◌≡◌ {A = ℕ} 0 1 = cc in absurd (omega arith)
both_some (Some x) (Some ys) vs h = (x, ys, refl, refl, cc)

module _ (k : Timing) (c : ℕ) where
  abbrev at : List ℕ → List Entry → Meaning
  at ws es = record { settled = ws; capacity = c; flight = es }

  looks_past : (rs : List ℕ) (e : Entry) (w : ℕ) (vs : List ℕ) (es : List Entry) (xs : List (Option Stage)) (ws : List ℕ)
      → fate xs e.tag e.status ≡ Done w → Settles e.destination → length ws ≡ 16
      → looks k (at ws (e ∷ es)) rs ≡ Some vs → looks k (at (put ws e.destination w) es) rs ≡ Some vs
  looks_past [] e w vs es xs ws f m l h = h
  looks_past (r ∷ rs) e w vs es xs ws f m l h =
      let p = both_some (look_answer k (at ws (e ∷ es)) r) (looks k (at ws (e ∷ es)) rs) vs h in
      let one = look_past e w xs ws f m l k c es r p.0 p.2 in
      let rest = looks_past rs e w p.1 es xs ws f m l p.3 in
      let all = p.4 in
      rw (one, rest, all)

  looks_end : (rs vs ws : List ℕ) → looks k (at ws []) rs ≡ Some vs → reads ws rs ≡ vs
  looks_end [] vs ws h = cc
  looks_end (r ∷ rs) vs ws h =
      let p = both_some (look_answer k (at ws []) r) (looks k (at ws []) rs) vs h in
      let one = settled_word k (ltb r 16) (get_or ws r 0) p.0 (sym (look_is k (at ws []) r) ∙ p.2) in
      let rest = looks_end rs p.1 ws p.3 in
      let all = p.4 in
      rw (one, rest, all)

-- what the oldest entry comes to

module _ (code : ℕ → Instr) (n : ℕ) (q : Plain) where
  pub follow_end : Follows code n q [] → q.counter ≡ n
  follow_end (end h) = h

  module _ (e : Entry) (es : List Entry) where
    pub follow_at : Follows code n q (e ∷ es) → e.counter ≡ q.counter
    follow_at (trap f a d t) = a
    follow_at (on w a d t r m s k) = a

    pub follow_done : (w : ℕ) → e.status ≡ Done w → Follows code n q (e ∷ es)
        → (r : Plain) × (executed (code q.counter) q ≡ Ok r) × (r.registers ≡ put q.registers e.destination w) × (r.words ≡ q.words) × Follows code n r es
    follow_done w f (trap c a d t) = let z : ◌≡◌ {A = ℕ} 0 1 = cc in absurd (omega arith)
    follow_done w f (on {r = r} v a d t g m s k) = let same : v ≡ w = cc in (r, t, rw (← same) g, m, k)

    pub follow_fault : (f : Fault) → e.status ≡ Faulted f → Follows code n q (e ∷ es) → executed (code q.counter) q ≡ Err f
    follow_fault f h (trap g a d t) = let same : g ≡ f = cc in rw (← same) t
    follow_fault f h (on v a d t g m s k) = let z : ◌≡◌ {A = ℕ} 0 1 = cc in absurd (omega arith)

    pub follow_known : Follows code n q (e ∷ es) → e.status ≡ Pending → ⊥
    follow_known (trap f a d t) h = let z : ◌≡◌ {A = ℕ} 0 1 = cc in omega arith
    follow_known (on v a d t g m s k) h = let z : ◌≡◌ {A = ℕ} 0 1 = cc in omega arith

-- a new youngest entry: it is followed, since it is from any machine that stands at the next counter with the words read
pub follow_issue : (code : ℕ → Instr) (n o : ℕ) (k : Timing) (c : ℕ) (rs vs ws : List ℕ) (new : Entry) (xs : List (Option Stage)) (es : List Entry) (q : Plain)
    → ((z : Plain) → z.counter ≡ n → z.words ≡ ws → reads z.registers rs ≡ vs → Follows code o z (new ∷ []))
    → q.words ≡ ws → length q.registers ≡ 16 → looks k (record { settled = q.registers; capacity = c; flight = es }) rs ≡ Some vs
    → Follows code n q (foreseen xs es) → Follows code o q (foreseen xs es ++ (new ∷ []))
follow_issue code n o k c rs vs ws new xs [] q each m l h (end a) = each q a m (looks_end k c rs vs q.registers h)
follow_issue code n o k c rs vs ws new xs (e ∷ es) q each m l h (trap f a d t) = trap f a d t
follow_issue code n o k c rs vs ws new xs (e ∷ es) q each m l h (on {r = r} w a d t g b s f) =
    on w a d t g b s
    (follow_issue code n o k c rs vs ws new xs es r each (b ∙ m) (ap length g ∙ (length_put q.registers e.destination w ∙ l)) (rw g (looks_past k c rs e w vs es xs q.registers d s l h)) f)
