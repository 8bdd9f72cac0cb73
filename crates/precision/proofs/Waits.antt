-- A cycle that neither raises the count nor stops brings the oldest entry's stage one place on.
use Rattle.std.proofs.Common.{◌≡◌, ℕ, suc, ◌-◌, ◌<◌, ◌≤◌, Bool, true, false, cond, eqb, List, [], ◌∷◌, ◌++◌, length, get_or, set, Some, None, Ok, Err, Option, Result, sym, refl, ap, ◌∙◌, subst, ⊎_elim, arith}
use Rattle.std.proofs.lemmas.Bool.{or_parts, cases_Bool, both_ways, and_from, eq-eqb, eqb-true}
use Rattle.isa.specs.declared.fault.Fault.{Fault}
use Rattle.isa.specs.declared.unit.ExecUnit.TheVariants as unit
use Rattle.isa.specs.Plain.{Plain}
use Rattle.recovery.specs.declared.Status.{Status}
use Rattle.recovery.specs.declared.Status.TheVariants.{Pending, Done, Faulted}
use Rattle.recovery.specs.declared.Trap.{Trap}
use Rattle.recovery.specs.Meaning.{Meaning, Entry, has_tag, is_pending, ended, takes, with_status, delivered, new_entry, retire_answer, retire_flight, retire_status, retire_leaves}
use Rattle.pickcore.specs.declared.stages.Stage.{Stage}
use Rattle.pickcore.specs.Cycle.{Setting, Pipe, Turn, arrived, moved, settled, delivers, front, retiring, cycle, flight_at_admission}
use Rattle.pickcore.specs.Sound.{staged}
use Rattle.pickcore.proofs.Cycles.{stays}
use Rattle.precision.specs.Fit.{Fit, Sane}
use Rattle.precision.specs.Beside.{fate, come_to, foreseen, Follows, Matches, Runs}
use Rattle.precision.specs.Waits.{Within, place, wait_for, wait_of, Calm}
use Rattle.precision.specs.Results.{WaitsAreShort}
use Rattle.precision.proofs.Places.{within_moved, within_set, place_within, place_moved, place_set, staged_set}
use Rattle.precision.proofs.Plan.{ended_known, fate_unstaged, other_tag}
use Rattle.precision.proofs.Follow.{follow_known}
use Rattle.precision.proofs.Fronts.{Went, met, failed, wrote, kept, issued, jumped, front_went}
use Rattle.precision.proofs.Turns.{moved_runs, settled_runs}

-- a pending entry that comes to something has a stage
has_stage : (xs : List (Option Stage)) (t : ℕ) → (fate xs t Pending ≡ Pending → ⊥) → staged t xs ≡ true
has_stage xs t f = ⊎_elim (λ yes. yes) (λ no. absurd (f (fate_unstaged xs t Pending no))) (cases_Bool (staged t xs))

-- what is left of the wait once the first stage is delivered: nothing is in flight, or the oldest entry is pending
data Nearer (longest w : ℕ) (p : Pipe) : Type 0 where
  idle : p.scheme.flight ≡ [] → longest ≡ w → Nearer longest w p
  nearer : (e : Entry) (es : List Entry) → p.scheme.flight ≡ e ∷ es → e.status ≡ Pending → place e.tag p.stages < w → Nearer longest w p

-- the oldest entry, past the delivery of a stage
abbrev turned : Option Stage → Entry → Entry
turned None e = e
turned (Some x) e = cond (takes x.tag e) (with_status e (ended x.result)) e

delivers_nil : (m : Meaning) (o : Option Stage) → m.flight ≡ [] → (delivers m o).flight ≡ []
delivers_nil m None h = h
delivers_nil m (Some x) h = ap (delivered x.tag (ended x.result)) h

delivers_cons : (m : Meaning) (o : Option Stage) (e : Entry) (es : List Entry) → m.flight ≡ e ∷ es → (fs : List Entry) × ((delivers m o).flight ≡ turned o e ∷ fs)
delivers_cons m None e es h = (es, h)
delivers_cons m (Some x) e es h = (delivered x.tag (ended x.result) es, ap (delivered x.tag (ended x.result)) h)

-- no delivery leaves an entry pending
ended_not : (r : Result ℕ Fault) → ended r ≡ Pending → ⊥
ended_not r h = both_ways (is_pending (ended r)) (ended_known r) (ap is_pending h)

still : (o : Option Stage) (e : Entry) → (turned o e).status ≡ Pending → turned o e ≡ e
still None e h = refl
still (Some x) e h = by (takes x.tag e) h
  where
    by : (b : Bool) → (cond b (with_status e (ended x.result)) e).status ≡ Pending → cond b (with_status e (ended x.result)) e ≡ e
    by true h = absurd (ended_not x.result h)
    by false h = refl

-- so that the first stage is not that of an entry which stays pending
not_first : (e : Entry) (xs : List (Option Stage)) → e.status ≡ Pending → turned (get_or xs 0 None) e ≡ e → staged e.tag xs ≡ true → 0 < place e.tag xs
not_first e [] y h k = absurd (both_ways false refl k)
not_first e (None ∷ xs) y h k = omega arith
not_first e (Some x ∷ xs) y h k = by (eqb x.tag e.tag) refl
  where
    by : (b : Bool) → eqb x.tag e.tag ≡ b → 0 < cond b 0 (suc (place e.tag xs))
    by false q = omega arith
    by true q =
        let same = eqb-true x.tag e.tag q in
        let taken = and_from (eqb e.tag x.tag) (is_pending e.status) (eq-eqb e.tag x.tag (sym same)) (ap is_pending y) in
        let gone = ap (λ b. (cond b (with_status e (ended x.result)) e).status) taken in
        absurd (ended_not x.result (sym gone ∙ (ap (λ (f : Entry). f.status) h ∙ y)))

oldest_pending : (e : Entry) (es : List Entry) → Ok None ≡ retire_flight (e ∷ es) → e.status ≡ Pending
oldest_pending e es h = by e.status h
  where
    by : (y : Status) → Ok None ≡ retire_status e.counter y → y ≡ Pending
    by Pending h = refl
    by (Done w) h = let z : ◌≡◌ {A = ℕ} 0 1 = cc in absurd (omega arith)
    by (Faulted f) h = let z : ◌≡◌ {A = ℕ} 0 1 = cc in absurd (omega arith)

-- the oldest entry in flight, if pending, has a stage
oldest_staged : (s : Setting) (q : Plain) (p : Pipe) (ws : List ℕ) (e : Entry) (es : List Entry) → Matches s q p ws → p.scheme.flight ≡ e ∷ es → e.status ≡ Pending → staged e.tag p.stages ≡ true
oldest_staged s q p ws e es h f y =
    has_stage p.stages e.tag
    (λ k. follow_known s.code p.next q (come_to p.stages e) (foreseen p.stages es)
    (subst (λ fs. Follows s.code p.next q (foreseen p.stages fs)) f h.follows) (ap (fate p.stages e.tag) y ∙ k))

-- rules 1 and 2, where nothing retires then
moved_nearer : (s : Setting) (q : Plain) (longest : ℕ) (p : Pipe) (ws : List ℕ) → Matches s q p ws → Ok None ≡ retire_answer (moved (arrived p)).scheme
    → Nearer longest (wait_of longest p.stages p.scheme.flight) (moved (arrived p))
moved_nearer s q longest p ws h a = by p.scheme.flight refl
  where
    by : (es : List Entry) → p.scheme.flight ≡ es → Nearer longest (wait_of longest p.stages es) (moved (arrived p))
    by [] f = idle (delivers_nil p.scheme (get_or p.stages 0 None) f) refl
    by (e ∷ es) f =
        let d = delivers_cons p.scheme (get_or p.stages 0 None) e es f in
        let pending = oldest_pending (turned (get_or p.stages 0 None) e) d.0 (a ∙ ap retire_flight d.1) in
        let same = still (get_or p.stages 0 None) e pending in
        let y : e.status ≡ Pending = ap (λ (g : Entry). g.status) (sym same) ∙ pending in
        let k = oldest_staged s q p ws e es h f y in
        nearer e d.0 (d.1 ∙ ap (λ g. g ∷ d.0) same) y (rw y (place_moved e.tag p.stages k (not_first e p.stages y same k)))

-- rules 4 to 7 leave that wait, or start the one of a new entry

module _ (longest w : ℕ) (p : Pipe) where
  kept_wait : (p.scheme.flight ≡ [] → ⊥) → Nearer longest w p → wait_of longest p.stages p.scheme.flight < w
  kept_wait busy (idle f e) = absurd (busy f)
  kept_wait busy (nearer e es f y k) = rw (f, y) k

  issued_wait : (x : Stage) (i n d : ℕ) → has_tag x.tag p.scheme.flight ≡ false → get_or p.stages i None ≡ None → i < length p.stages → Within longest (set p.stages i (Some x))
      → Nearer longest w p → wait_of longest (set p.stages i (Some x)) (p.scheme.flight ++ (new_entry x.tag n (Some d) ∷ [])) < w
  issued_wait x i n d free slot l a (idle f e) = rw (f, ← e) (place_within longest x.tag (set p.stages i (Some x)) a (staged_set x i p.stages l))
  issued_wait x i n d free slot l a (nearer e es f y k) =
      let other = (or_parts (eqb e.tag x.tag) (has_tag x.tag es) (rw f at free)).0 in
      rw (f, y, place_set e.tag i x p.stages slot (other_tag x.tag e.tag other)) k

  jumped_wait : (t n : ℕ) → 1 ≤ longest → Nearer longest w p → wait_of longest p.stages (p.scheme.flight ++ (new_entry t n None ∷ [])) < w
  jumped_wait t n l (idle f e) = rw (f, ← e) l
  jumped_wait t n l (nearer e es f y k) = rw (f, y) k

module _ (s : Setting) (longest : ℕ) (fit : Fit s longest) (sane : Sane s) where
  -- c is the count before the cycle
  went_calm : (t c w : ℕ) (p : Pipe) (ws : List ℕ) (x : Turn) → has_tag t p.scheme.flight ≡ false → length p.stages ≡ 16 → Within longest p.stages → c ≤ p.count
      → (p.count ≡ c → Nearer longest w p) → Went s t p ws x → Calm longest c w x
  went_calm t c w p ws x free rows a l near (met e) = tt
  went_calm t c w p ws x free rows a l near (failed f e does) = tt
  went_calm t c w p ws x free rows a l near (wrote vs e does) = (λ h. absurd (omega arith), a)
  went_calm t c w p ws x free rows a l near (kept y busy) = (λ h. kept_wait longest w p busy (near h), a)
  went_calm t c w p ws x free rows a l near (issued u d rs xs r b look slot does) =
      let stage : Stage = record { tag = t; result = r } in
      let within = within_set longest (s.delay u - 1) p.stages (Some stage) (omega (arith, fit.least u, fit.most u)) a in
      let small : s.delay u - 1 < length p.stages = omega (arith, fit.least u, fit.most u, fit.short) in
      (λ h. issued_wait longest w p stage (s.delay u - 1) p.next d free slot small within (near h), within)
  went_calm t c w p ws x free rows a l near (jumped rs xs n look does) =
      (λ h. jumped_wait longest w p t p.next (omega (arith, fit.least unit.Short, fit.most unit.Short)) (near h), a)

  front_calm : (base : Plain) (requested : Bool) (t c w : ℕ) (p : Pipe) (ws : List ℕ) → Runs s base p ws → Within longest p.stages → has_tag t p.scheme.flight ≡ false → c ≤ p.count
      → (p.count ≡ c → Nearer longest w p) → Calm longest c w (front s requested t p ws)
  front_calm base requested t c w p ws r a free l near =
      let h = r.here in
      went_calm t c w p ws (front s requested t p ws) free h.rows a l near (front_went s t p ws h.tied h.roomy requested (sane p.next))

  retiring_calm : (base : Plain) (requested : Bool) (t w : ℕ) (p : Pipe) (ws : List ℕ) (y : Result (Option ℕ) Trap) → Runs s base p ws → Within longest p.stages → y ≡ retire_answer p.scheme
      → has_tag t (retire_leaves p.scheme).flight ≡ false → (Ok None ≡ retire_answer p.scheme → Nearer longest w p) → Calm longest p.count w (retiring s requested t p ws y)
  unfolding retiring
  retiring_calm base requested t w p ws (Ok None) r a e free near =
      front_calm base requested t p.count w p ws r a (subst (λ (m : Meaning). has_tag t m.flight ≡ false) (stays p.scheme (Ok None) e refl) free) (omega arith) (λ _. near e)
  retiring_calm base requested t w p ws (Ok (Some c)) r a e free near =
      front_calm base requested t p.count w (settled p) ws (settled_runs s base p ws c e r) a free (omega arith) (λ h. absurd (omega arith))
  retiring_calm base requested t w p ws (Err x) r a e free near = tt

  pub cycle_calm : (base : Plain) (requested : Bool) (t : ℕ) (p : Pipe) (ws : List ℕ) → Runs s base p ws → Within longest p.stages → has_tag t (flight_at_admission p) ≡ false
      → Calm longest p.count (wait_of longest p.stages p.scheme.flight) (cycle s requested t p ws)
  unfolding cycle
  cycle_calm base requested t p ws r a free =
      retiring_calm base requested t (wait_of longest p.stages p.scheme.flight) (moved (arrived p)) ws (retire_answer (moved (arrived p)).scheme)
      (moved_runs s base p ws r) (within_moved longest p.stages a) refl free (moved_nearer s r.now longest p ws r.here)

-- a wait is never past the longest delay
pub wait_bound : (s : Setting) (longest : ℕ) (base : Plain) (p : Pipe) (ws : List ℕ) → Runs s base p ws → Within longest p.stages → wait_of longest p.stages p.scheme.flight ≤ longest
wait_bound s longest base p ws r a = by p.scheme.flight refl
  where
    one : (e : Entry) (es : List Entry) (y : Status) → p.scheme.flight ≡ e ∷ es → e.status ≡ y → wait_for p.stages e.tag y ≤ longest
    one e es Pending f h = let k = place_within longest e.tag p.stages a (oldest_staged s r.now p ws e es r.here f h) in omega arith
    one e es (Done w) f h = omega arith
    one e es (Faulted g) f h = omega arith

    by : (es : List Entry) → p.scheme.flight ≡ es → wait_of longest p.stages es ≤ longest
    by [] f = omega arith
    by (e ∷ es) f = one e es e.status f refl

pub waits_are_short : WaitsAreShort
waits_are_short s longest fit sane base p ws r a = (wait_bound s longest base p ws r a, λ requested t. cycle_calm s longest fit sane base requested t p ws r a)
