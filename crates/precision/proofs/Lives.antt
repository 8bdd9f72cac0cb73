-- Through the life of a core: one that runs is beside the plain machine, and one that is stopped agrees with it.
use Rattle.std.proofs.Common.{◌≡◌, ℕ, ◌+◌, ◌<◌, ◌≤◌, Bool, true, false, cond, not, ◌&&◌, eqb, leb, ◌⊎◌, List, [], length, set, replicate, Some, None, Ok, Err, Option, Result, sym, refl, ap, ◌∙◌, subst, inl, inr, ⊎_elim, arith, length-set}
use Rattle.std.proofs.lemmas.Bool.{and_parts, eqb-true, leb-true}
use Rattle.std.specs.Result.{result_err}
use Rattle.isa.specs.declared.fault.Cause.{Cause}
use Rattle.isa.specs.declared.fault.Cause.TheVariants as cause
use Rattle.isa.specs.declared.refusal.Refusal.{Refusal}
use Rattle.isa.specs.declared.refusal.Refusal.TheVariants as refusal
use Rattle.isa.specs.Table.{fetched, value_or}
use Rattle.isa.specs.Plain.{Plain, at_zero}
use Rattle.recovery.specs.declared.Timing.{Timing}
use Rattle.recovery.specs.Meaning.{Meaning, oldest_answer}
use Rattle.pickcore.specs.declared.record.CycleRecord.{CycleRecord}
use Rattle.pickcore.specs.declared.record.Ending.{Ending}
use Rattle.pickcore.specs.declared.record.Ending.TheVariants as ending
use Rattle.pickcore.specs.Limits.{delays_fit, one_to_sixteen, program_fits, data_fits}
use Rattle.pickcore.specs.Cycle.{Pipe, emptied, cycle}
use Rattle.pickcore.specs.Model.{setting}
use Rattle.pickcore.specs.Calls.{Machine, unless, loaded, load_refusal, load_leaves, resume_refusal, resumed, resume_leaves, amend_refusal, amended, amend_leaves, stopped_refusal, marked, request_leaves, counter_or, cut_off, cut_leaves, goes_on, stopped, after_ending, step_refusal, Step, step_turn, turned, step_by, Steps, RunsBy, registers_answer, looked, taken_up, take_up_by, take_up_leaves}
use Rattle.pickcore.proofs.Sounds.{steppable}
use Rattle.pickcore.proofs.Registers.{looked_settled}
use Rattle.pickcore.proofs.Taking.{placed, placed_all}
use Rattle.images.specs.Image.{Snapshot, read_words}
use Rattle.images.proofs.Trip.{length_read}
use Rattle.precision.specs.Fit.{Fit, Sane, longest_of}
use Rattle.precision.specs.Steps.{steps}
use Rattle.precision.specs.Beside.{Runs, Ends, ByEnding}
use Rattle.precision.specs.Waits.{Within, wait_of}
use Rattle.precision.proofs.Places.{within_none}
use Rattle.precision.proofs.Settings.{settings_are_fit}
use Rattle.precision.proofs.Turns.{idle_runs, cycle_held, cut_held}
use Rattle.precision.proofs.Waits.{cycle_calm, wait_bound}
use Rattle.precision.specs.Life.{Deed, step, cut, amend, take_up, resume, other, Event, Other, asked, requested, step_declined, run_declined, cut_declined, amend_declined, take_up_declined, resume_declined, Happens, Life, start, next}
use Rattle.precision.specs.Precise.{reported, followed, with_register, with_state, with_counter, plain_after, plain_beside, quiet, quiet_after, quiet_steps, Agrees, Precise, LivesArePrecise, StoppedCoresAgree}

-- a stopped core and the plain machine beside it
pub record Idle (p : Plain) (ws : List ℕ) (q : Pipe) : Type 0 where
  pub registers : p.registers ≡ q.scheme.settled
  pub words : p.words ≡ ws
  pub wide : length p.registers ≡ 16
  pub roomy : 1 ≤ q.scheme.capacity
  pub empty : q.scheme.flight ≡ []
  pub clear : q.stages ≡ replicate 16 None

-- a core and the plain machine, where the core runs or is stopped
abbrev pub LifeOf : Timing → List ℕ → Plain → List ℕ → ℕ → Machine → Bool → Type 0
LifeOf k program p ws z m true =
    Runs (setting k m.delays program) p m.pipe ws
    × Within (longest_of m.delays) m.pipe.stages
    × (z + wait_of (longest_of m.delays) m.pipe.stages m.pipe.scheme.flight ≤ longest_of m.delays)
LifeOf k program p ws z m false = Idle p ws m.pipe × (z ≤ longest_of m.delays)

pub record Kept (k : Timing) (program : List ℕ) (p : Plain) (ws : List ℕ) (z : ℕ) (m : Machine) : Type 0 where
  pub units : length m.delays ≡ 4
  pub fit : delays_fit m.delays ≡ true
  pub life : LifeOf k program p ws z m m.running

module _ (k : Timing) (program : List ℕ) where
  -- what `registers` answers of a stopped core
  stopped_registers : (n : Machine) (xs : List ℕ) → n.running ≡ false → n.pipe.scheme.flight ≡ [] → n.pipe.scheme.settled ≡ xs → length xs ≡ 16 → registers_answer k n ≡ (xs, 0)
  stopped_registers n xs off e f l =
      ap (λ b. cond {A = List ℕ × ℕ} b (replicate 16 0, 6) (looked k n.pipe.scheme, 0)) off
      ∙ ap (λ ys. (ys, 0)) (looked_settled k n.pipe.scheme e (ap length f ∙ l) ∙ f)

  pub bounded : (p : Plain) (ws : List ℕ) (z : ℕ) (m : Machine) (b : Bool) → LifeOf k program p ws z m b → z ≤ longest_of m.delays
  bounded p ws z m true l = let h = l.2 in omega arith
  bounded p ws z m false l = l.1

  pub idle_from : (p : Plain) (ws : List ℕ) (z : ℕ) (m : Machine) → m.running ≡ false → Kept k program p ws z m → Idle p ws m.pipe
  idle_from p ws z m off h = (subst (LifeOf k program p ws z m) off h.life).0

  -- what a cycle leaves, by its ending
  module _ (p : Plain) (ws : List ℕ) (z : ℕ) (m : Machine) (on : m.running ≡ true) (h : Kept k program p ws z m) (q : Pipe) (vs : List ℕ) where
    paced : z + wait_of (longest_of m.delays) m.pipe.stages m.pipe.scheme.flight ≤ longest_of m.delays
    paced = (subst (LifeOf k program p ws z m) on h.life).2

    going : Runs (setting k m.delays program) p q vs
        → ((q.count ≡ m.pipe.count → wait_of (longest_of m.delays) q.stages q.scheme.flight < wait_of (longest_of m.delays) m.pipe.stages m.pipe.scheme.flight) × Within (longest_of m.delays) q.stages)
        → Kept k program (followed program p m (goes_on m q)) vs (quiet z m (goes_on m q)) (goes_on m q)
    going r calm = record {
      units = h.units;
      fit = h.fit;
      life = subst (λ b. LifeOf k program (cond (b && not b) (value_or p (steps (fetched program) q.count p)) p) vs (cond (b && eqb q.count m.pipe.count) (z + 1) 0) (goes_on m q) b) (sym on) (r, calm.1, pace (eqb q.count m.pipe.count) refl);
    }
      where
        pace : (b : Bool) → eqb q.count m.pipe.count ≡ b → cond b (z + 1) 0 + wait_of (longest_of m.delays) q.stages q.scheme.flight ≤ longest_of m.delays
        pace true e = let lt = calm.0 (eqb-true q.count m.pipe.count e) in let o = paced in omega arith
        pace false e = let o = wait_bound (setting k m.delays program) (longest_of m.delays) p q vs r calm.1 in omega arith

    agrees : (c : Cause) (n : Machine) → n.pipe ≡ q → n.cause ≡ Some c → n.running ≡ false → Ends (setting k m.delays program) p c q vs → Agrees k program p vs n
    agrees c n e f off x =
        let registers : n.pipe.scheme.settled ≡ x.now.registers = ap (λ (y : Pipe). y.scheme.settled) e ∙ sym x.registers in
        let flight : n.pipe.scheme.flight ≡ [] = ap (λ (y : Pipe). y.scheme.flight) e ∙ x.empty in
        record {
          report = record { cause = n.cause; counter = n.pipe.next; count = n.pipe.count };
          answers = ap (λ b. cond b (Err refusal.Running) (Ok (record { cause = n.cause; counter = n.pipe.next; count = n.pipe.count }))) off;
          now = x.now;
          ran = ap (λ (y : Pipe). steps (fetched program) y.count p) e ∙ x.ran;
          registers = stopped_registers n x.now.registers off flight registers x.wide;
          counter = x.counter ∙ sym (ap (λ (y : Pipe). y.next) e);
          words = x.words;
          fault = λ g h. x.fault g (let u = sym f ∙ h in cc);
        }

    stopping : (c : Cause) (n : Machine) → n.pipe ≡ q → n.running ≡ false → n.delays ≡ m.delays → Ends (setting k m.delays program) p c q vs → Kept k program (followed program p m n) vs 0 n
    stopping c n e off d x =
        let idle : Idle x.now vs q = record { registers = x.registers; words = x.words; wide = x.wide; roomy = x.roomy; empty = x.empty; clear = x.clear } in
        let same : followed program p m n ≡ x.now =
        ap (λ b. cond (b && not n.running) (value_or p (steps (fetched program) n.pipe.count p)) p) on
        ∙ (ap (λ b. cond (not b) (value_or p (steps (fetched program) n.pipe.count p)) p) off
        ∙ ap (value_or p) (ap (λ (y : Pipe). steps (fetched program) y.count p) e ∙ x.ran)) in
        record {
          units = ap length d ∙ h.units;
          fit = ap delays_fit d ∙ h.fit;
          life = subst (LifeOf k program (followed program p m n) vs 0 n) (sym off)
              (subst (λ y. Idle y vs n.pipe) (sym same) (subst (Idle x.now vs) (sym e) idle), omega arith);
        }

    silent : {A : Type 0} → (m.running && not m.running) ≡ true → A
    silent y = let f = sym (ap (λ b. b && not b) on) ∙ y in let u : ◌≡◌ {A = ℕ} 0 1 = cc in absurd (omega arith)

    after_cycle : (e : Ending) → ByEnding (Runs (setting k m.delays program) p q vs) (λ c. Ends (setting k m.delays program) p c q vs) e
        → ByEnding ((q.count ≡ m.pipe.count → wait_of (longest_of m.delays) q.stages q.scheme.flight < wait_of (longest_of m.delays) m.pipe.stages m.pipe.scheme.flight) × Within (longest_of m.delays) q.stages) (λ _. Unit {0}) e
        → Kept k program (followed program p m (after_ending m q e)) vs (quiet z m (after_ending m q e)) (after_ending m q e)
        × (reported m (after_ending m q e) ≡ true → Agrees k program p vs (after_ending m q e))
    after_cycle (ending.Issued c) r calm = (going r calm, λ y. silent y)
    after_cycle (ending.Stored c) r calm = (going r calm, λ y. silent y)
    after_cycle (ending.Held c) r calm = (going r calm, λ y. silent y)
    after_cycle (ending.Stopped c) x calm = (stopping c (stopped (goes_on m q) c) refl refl refl x, λ _. agrees c (stopped (goes_on m q) c) refl refl refl x)

  fits : (m : Machine) → length m.delays ≡ 4 → delays_fit m.delays ≡ true → Fit (setting k m.delays program) (longest_of m.delays) × Sane (setting k m.delays program)
  fits m u f = settings_are_fit k m.delays program u f

  -- an accepted step
  pub step_on : (p : Plain) (ws : List ℕ) (z : ℕ) (m : Machine) (s : Step) (r : CycleRecord) → Kept k program p ws z m → Steps k m program ws s → s.answer ≡ Ok r
      → Kept k program (followed program p m s.machine) s.words (quiet z m s.machine) s.machine × (reported m s.machine ≡ true → Agrees k program p s.words s.machine)
  step_on p ws z m s r h st a = by (step_refusal m (length program) (length ws)) refl
    where
      by : (o : Option Refusal) → step_refusal m (length program) (length ws) ≡ o
          → Kept k program (followed program p m s.machine) s.words (quiet z m s.machine) s.machine × (reported m s.machine ≡ true → Agrees k program p s.words s.machine)
      by (Some x) e =
          let q : s ≡ step_by k m program ws st.tag (Some x) = st.is ∙ ap (step_by k m program ws st.tag) e in
          let f : Ok r ≡ Err x = sym a ∙ ap (λ (y : Step). y.answer) q in
          let u : ◌≡◌ {A = ℕ} 0 1 = cc in absurd (omega arith)
      by None e =
          let q : s ≡ turned m (step_turn k m program ws st.tag) = st.is ∙ ap (step_by k m program ws st.tag) e in
          let on = (steppable m (length program) (length ws) e).running in
          let life = subst (LifeOf k program p ws z m) on h.life in
          let ok = fits m h.units h.fit in
          let t = cycle (setting k m.delays program) m.requested st.tag m.pipe ws in
          subst (λ (y : Step). Kept k program (followed program p m y.machine) y.words (quiet z m y.machine) y.machine × (reported m y.machine ≡ true → Agrees k program p y.words y.machine)) (sym q)
          (after_cycle p ws z m on h t.pipe t.words t.ending
          (cycle_held (setting k m.delays program) (longest_of m.delays) ok.0 ok.1 p m.requested st.tag m.pipe ws life.0 st.free)
          (cycle_calm (setting k m.delays program) (longest_of m.delays) ok.0 ok.1 p m.requested st.tag m.pipe ws life.0 life.1 st.free))

  -- a declined step
  pub step_off : (p : Plain) (ws : List ℕ) (z : ℕ) (m : Machine) (lent words : List ℕ) (s : Step) (x : Refusal) → Kept k program p ws z m → Steps k m lent words s → s.answer ≡ Err x → Kept k program p ws z s.machine
  step_off p ws z m lent words s x h st a = by (step_refusal m (length lent) (length words)) refl
    where
      by : (o : Option Refusal) → step_refusal m (length lent) (length words) ≡ o → Kept k program p ws z s.machine
      by (Some y) e = subst (λ (t : Step). Kept k program p ws z t.machine) (sym (st.is ∙ ap (step_by k m lent words st.tag) e)) h
      by None e =
          let q : s ≡ turned m (step_turn k m lent words st.tag) = st.is ∙ ap (step_by k m lent words st.tag) e in
          let f = sym a ∙ ap (λ (y : Step). y.answer) q in
          let u : ◌≡◌ {A = ℕ} 0 1 = cc in absurd (omega arith)

  still : (b : Bool) → (b && not b) ≡ false
  still true = refl
  still false = refl

  -- a call that leaves the core as it is
  unmoved : (p : Plain) (ws : List ℕ) (z : ℕ) (m : Machine) → Kept k program p ws z m → Kept k program (followed program p m m) ws z m
  unmoved p ws z m h = subst (λ y. Kept k program y ws z m) (sym (ap (λ b. cond b (value_or p (steps (fetched program) m.pipe.count p)) p) (still m.running))) h

  pub cut_on : (p : Plain) (ws : List ℕ) (z : ℕ) (m : Machine) → Kept k program p ws z m
      → Kept k program (followed program p m (cut_leaves m)) ws z (cut_leaves m) × (reported m (cut_leaves m) ≡ true → Agrees k program p ws (cut_leaves m))
  cut_on p ws z m h = by m.running refl
    where
      by : (b : Bool) → m.running ≡ b → Kept k program (followed program p m (cut_leaves m)) ws z (cut_leaves m) × (reported m (cut_leaves m) ≡ true → Agrees k program p ws (cut_leaves m))
      by false off =
          let e : cut_leaves m ≡ m = ap (λ b. unless (cond b None (Some refusal.Stopped)) (cut_off m) m) off in
          subst (λ (n : Machine). Kept k program (followed program p m n) ws z n × (reported m n ≡ true → Agrees k program p ws n)) (sym e)
          (unmoved p ws z m h, λ y. let f = sym (still m.running) ∙ y in let u : ◌≡◌ {A = ℕ} 0 1 = cc in absurd (omega arith))
      by true on =
          let e : cut_leaves m ≡ cut_off m = ap (λ b. unless (cond b None (Some refusal.Stopped)) (cut_off m) m) on in
          let life = subst (LifeOf k program p ws z m) on h.life in
          let x = cut_held (setting k m.delays program) p m.pipe ws (counter_or (oldest_answer m.pipe.scheme) m.pipe.next) life.0
          (λ c y. ap (λ o. counter_or o m.pipe.next) y) (λ y. ap (λ o. counter_or o m.pipe.next) y) in
          let q = emptied m.pipe (counter_or (oldest_answer m.pipe.scheme) m.pipe.next) in
          let stop = stopping p ws z m on h q ws cause.Cut (cut_off m) refl refl refl x in
          subst (λ (n : Machine). Kept k program (followed program p m n) ws z n × (reported m n ≡ true → Agrees k program p ws n)) (sym e) (
            record { units = stop.units; fit = stop.fit; life = (stop.life.0, bounded p ws z m true life) },
            λ _. agrees p ws z m on h q ws cause.Cut (cut_off m) refl refl refl x,
          )

  pub request_on : (p : Plain) (ws : List ℕ) (z : ℕ) (m : Machine) → Kept k program p ws z m → Kept k program p ws z (request_leaves m)
  request_on p ws z m h = by (stopped_refusal m)
    where
      by : (o : Option Refusal) → Kept k program p ws z (unless o (marked m) m)
      by None = record { units = h.units; fit = h.fit; life = moved m.running h.life }
        where
          moved : (b : Bool) → LifeOf k program p ws z m b → LifeOf k program p ws z (marked m) b
          moved true l = l
          moved false l = l
      by (Some x) = h

  pub amend_on : (p : Plain) (ws : List ℕ) (z : ℕ) (m : Machine) (r w : ℕ) → Kept k program p ws z m → Kept k program (unless (amend_refusal m r) (with_register p r w) p) ws z (amend_leaves m r w)
  amend_on p ws z m r w h = by m.running refl (leb r 15) refl
    where
      by : (b : Bool) → m.running ≡ b → (c : Bool) → leb r 15 ≡ c → Kept k program (unless (amend_refusal m r) (with_register p r w) p) ws z (amend_leaves m r w)
      by true on c e =
          subst (λ o. Kept k program (unless o (with_register p r w) p) ws z (unless o (amended m r w) m)) (sym (ap (λ b. cond b (Some refusal.Running) (cond (leb r 15) None (Some refusal.Register))) on)) h
      by false off false e =
          subst (λ o. Kept k program (unless o (with_register p r w) p) ws z (unless o (amended m r w) m))
          (sym (ap (λ b. cond b (Some refusal.Running) (cond (leb r 15) None (Some refusal.Register))) off ∙ ap (λ c. cond c None (Some refusal.Register)) e)) h
      by false off true e =
          let i = idle_from p ws z m off h in
          let below : r < 16 = let l = leb-true r 15 e in omega arith in
          let pl = placed m.pipe.scheme r w i.empty below in
          let idle : Idle (with_register p r w) ws (amended m r w).pipe = record {
            registers = ap (λ xs. set xs r w) i.registers ∙ sym (ap (λ (y : Meaning). y.settled) pl);
            words = i.words;
            wide = length-set p.registers r w ∙ i.wide;
            roomy = subst (λ (y : Meaning). 1 ≤ y.capacity) (sym pl) i.roomy;
            empty = ap (λ (y : Meaning). y.flight) pl ∙ i.empty;
            clear = i.clear;
          } in
          subst (λ o. Kept k program (unless o (with_register p r w) p) ws z (unless o (amended m r w) m))
          (sym (ap (λ b. cond b (Some refusal.Running) (cond (leb r 15) None (Some refusal.Register))) off ∙ ap (λ c. cond c None (Some refusal.Register)) e))
          (record { units = h.units; fit = h.fit; life = subst (LifeOf k program (with_register p r w) ws z (amended m r w)) (sym off) (idle, bounded p ws z m m.running h.life) })

  pub resume_on : (p : Plain) (ws : List ℕ) (z : ℕ) (m : Machine) (c : ℕ) → Kept k program p ws z m → Kept k program (unless (resume_refusal m c) (with_counter p c) p) ws (unless (resume_refusal m c) 0 z) (resume_leaves m c)
  resume_on p ws z m c h = by m.running refl (leb c 65535) refl
    where
      by : (b : Bool) → m.running ≡ b → (d : Bool) → leb c 65535 ≡ d → Kept k program (unless (resume_refusal m c) (with_counter p c) p) ws (unless (resume_refusal m c) 0 z) (resume_leaves m c)
      by true on d e =
          subst (λ o. Kept k program (unless o (with_counter p c) p) ws (unless o 0 z) (unless o (resumed m c) m)) (sym (ap (λ b. cond b (Some refusal.Running) (cond (leb c 65535) None (Some refusal.Counter))) on)) h
      by false off false e =
          subst (λ o. Kept k program (unless o (with_counter p c) p) ws (unless o 0 z) (unless o (resumed m c) m))
          (sym (ap (λ b. cond b (Some refusal.Running) (cond (leb c 65535) None (Some refusal.Counter))) off ∙ ap (λ d. cond d None (Some refusal.Counter)) e)) h
      by false off true e =
          let i = idle_from p ws z m off h in
          let same : record { registers = m.pipe.scheme.settled; words = ws; counter = c } ≡ with_counter p c =
          ap (λ xs. record { registers = xs; words = ws; counter = c }) (sym i.registers) ∙ ap (λ xs. record { registers = p.registers; words = xs; counter = c }) (sym i.words) in
          let runs = idle_runs (setting k m.delays program) (resumed m c).pipe ws i.empty i.clear refl (sym (ap length i.registers) ∙ i.wide) i.roomy in
          subst (λ o. Kept k program (unless o (with_counter p c) p) ws (unless o 0 z) (unless o (resumed m c) m))
          (sym (ap (λ b. cond b (Some refusal.Running) (cond (leb c 65535) None (Some refusal.Counter))) off ∙ ap (λ d. cond d None (Some refusal.Counter)) e))
          (record {
            units = h.units;
            fit = h.fit;
            life = (
              subst (λ y. Runs (setting k m.delays program) y (resumed m c).pipe ws) same runs,
              subst (Within (longest_of m.delays)) (sym i.clear) (within_none (longest_of m.delays) 16),
              subst (λ es. 0 + wait_of (longest_of m.delays) m.pipe.stages es ≤ longest_of m.delays) (sym i.empty) (omega arith),
            );
          })

  -- what load accepts
  pub load_on : (m : Machine) (ds : List ℕ) (c pl dl : ℕ) (ws : List ℕ) → length ds ≡ 4 → load_refusal m ds c pl dl ≡ None → Kept k program (at_zero ws) ws 0 (load_leaves m ds c pl dl)
  load_on m ds c pl dl ws u e =
      let f = accepts m.running (delays_fit ds) refl (one_to_sixteen c) refl e in
      subst (λ o. Kept k program (at_zero ws) ws 0 (unless o (loaded ds c pl dl) m)) (sym e)
      (record { units = u; fit = f.0; life = (record { registers = refl; words = refl; wide = refl; roomy = f.1; empty = refl; clear = refl }, omega arith) })
    where
      accepts : (r a : Bool) → delays_fit ds ≡ a → (b : Bool) → one_to_sixteen c ≡ b
          → cond r (Some refusal.Running) (cond (not a) (Some refusal.Delay) (cond (not b) (Some refusal.Capacity) (cond (not (program_fits pl)) (Some refusal.Program) (cond (not (data_fits dl)) (Some refusal.Data) None)))) ≡ None
          → (delays_fit ds ≡ true) × (1 ≤ c)
      accepts true a x b y q = let z : ◌≡◌ {A = ℕ} 0 1 = cc in absurd (omega arith)
      accepts false false x b y q = let z : ◌≡◌ {A = ℕ} 0 1 = cc in absurd (omega arith)
      accepts false true x false y q = let z : ◌≡◌ {A = ℕ} 0 1 = cc in absurd (omega arith)
      accepts false true x true y q = (x, leb-true 1 c (and_parts (leb 1 c) (leb c 16) y).0)

  take_up_on : (p : Plain) (ws : List ℕ) (z : ℕ) (m : Machine) (image : List ℕ) (s : Snapshot) → m.running ≡ false → read_words image ≡ Ok s → Kept k program p ws z m → Kept k program (with_state p s) ws z (take_up_leaves m image)
  take_up_on p ws z m image s off read h =
      let i = idle_from p ws z m off h in
      let n = length_read image s read in
      let pl = placed_all m.pipe.scheme s.registers i.empty (sym (ap length i.registers) ∙ i.wide) n in
      let idle : Idle (with_state p s) ws (taken_up m s).pipe = record {
        registers = sym (ap (λ (y : Meaning). y.settled) pl);
        words = i.words;
        wide = n;
        roomy = subst (λ (y : Meaning). 1 ≤ y.capacity) (sym pl) i.roomy;
        empty = ap (λ (y : Meaning). y.flight) pl ∙ i.empty;
        clear = i.clear;
      } in
      let is : take_up_leaves m image ≡ taken_up m s = ap (λ b. cond b m (take_up_by m (read_words image))) off ∙ ap (take_up_by m) read in
      subst (Kept k program (with_state p s) ws z) (sym is)
      (record { units = h.units; fit = h.fit; life = subst (LifeOf k program (with_state p s) ws z (taken_up m s)) (sym off) (idle, bounded p ws z m m.running h.life) })

  -- a call's outcome, by its refusal
  unless_delays : (o : Option Refusal) (new old : Machine) → new.delays ≡ old.delays → (unless o new old).delays ≡ old.delays
  unless_delays None new old e = e
  unless_delays (Some x) new old e = refl

  declined : {A : Type 0} (o : Option Refusal) (x : Refusal) (new old : A) → o ≡ Some x → unless o new old ≡ old
  declined o x new old e = ap (λ y. unless y new old) e

  -- a call that is accepted only while the core is stopped
  off_when : (b : Bool) (x : Refusal) (o : Option Refusal) → cond b (Some x) o ≡ None → b ≡ false
  off_when true x o e = let u : ◌≡◌ {A = ℕ} 0 1 = cc in absurd (omega arith)
  off_when false x o e = refl

  -- a core that was stopped, or that is running or not as it was, makes no report
  no_report : {A : Type 0} (b c : Bool) → b ≡ false → (b && not c) ≡ true → A
  no_report b c off e = let u = sym (ap (λ a. a && not c) off) ∙ e in let z : ◌≡◌ {A = ℕ} 0 1 = cc in absurd (omega arith)

  no_change : {A : Type 0} (b c : Bool) → c ≡ b → (b && not c) ≡ true → A
  no_change b c same e = let u = sym (ap (λ a. b && not a) same ∙ still b) ∙ e in let z : ◌≡◌ {A = ℕ} 0 1 = cc in absurd (omega arith)

  -- what is neither a step nor a cut, amend, take-up or resume leaves the core, or marks a request
  step_declines : (m n : Machine) (lent words vs : List ℕ) (x : Refusal) → Steps k m lent words (record { answer = Err x; machine = n; words = vs }) → n ≡ m
  step_declines m n lent words vs x st = by (step_refusal m (length lent) (length words)) refl
    where
      by : (o : Option Refusal) → step_refusal m (length lent) (length words) ≡ o → n ≡ m
      by (Some y) e = ap (λ (t : Step). t.machine) (st.is ∙ ap (step_by k m lent words st.tag) e)
      by None e =
          let q = ap (λ (t : Step). t.answer) (st.is ∙ ap (step_by k m lent words st.tag) e) in
          let u : ◌≡◌ {A = ℕ} 0 1 = cc in absurd (omega arith)

  run_declines : (m n : Machine) (lent words vs : List ℕ) (before after : List CycleRecord) (x : Refusal) (o : Option Refusal) → RunsBy k lent m words before o (Err x) after n vs → n ≡ m
  run_declines m n lent words vs before after x (Some y) r = r.2
  run_declines m n lent words vs before after x None r = let e = r.1 in let u : ◌≡◌ {A = ℕ} 0 1 = cc in absurd (omega arith)

  take_up_declines : (m : Machine) (x : Refusal) (b : Bool) (r : Result Snapshot Refusal) → cond b (Some refusal.Running) (result_err r) ≡ Some x → cond b m (take_up_by m r) ≡ m
  take_up_declines m x true r y = refl
  take_up_declines m x false (Err z) y = refl
  take_up_declines m x false (Ok s) y = let u : ◌≡◌ {A = ℕ} 0 1 = cc in absurd (omega arith)

  other_is : {m n : Machine} → Other k m n → (n ≡ m) ⊎ (n ≡ request_leaves m)
  other_is asked = inl refl
  other_is requested = inr refl
  other_is {m = m} {n = n} (step_declined x lent words vs st) = inl (step_declines m n lent words vs x st)
  other_is {m = m} {n = n} (run_declined x lent words vs before after r) = inl (run_declines m n lent words vs before after x (step_refusal m (length lent) (length words)) r)
  other_is {m = m} (cut_declined x e) = inl (declined (stopped_refusal m) x (cut_off m) m e)
  other_is {m = m} (amend_declined x r w e) = inl (declined (amend_refusal m r) x (amended m r w) m e)
  other_is {m = m} (take_up_declined x image e) = inl (take_up_declines m x m.running (read_words image) e)
  other_is {m = m} (resume_declined x c e) = inl (declined (resume_refusal m c) x (resumed m c) m e)

  request_running : (m : Machine) → (request_leaves m).running ≡ m.running
  request_running m = by (stopped_refusal m)
    where
      by : (o : Option Refusal) → (unless o (marked m) m).running ≡ m.running
      by None = refl
      by (Some x) = refl

  -- every event keeps the two beside each other, and a report agrees
  happens_on : (d : Deed) (p : Plain) (ws vs : List ℕ) (z : ℕ) (m n : Machine) → Kept k program p ws z m → Happens k program m ws d n vs
      → Kept k program (plain_after program p d m n) vs (quiet_after z d m n) n × (reported m n ≡ true → Agrees k program p vs n)
  happens_on (step r) p ws vs z m n h st = step_on p ws z m (record { answer = Ok r; machine = n; words = vs }) r h st refl
  happens_on cut p ws vs z m n h e =
      subst (λ (us : List ℕ). Kept k program (followed program p m n) us z n × (reported m n ≡ true → Agrees k program p us n)) (sym e.2)
      (subst (λ (o : Machine). Kept k program (followed program p m o) ws z o × (reported m o ≡ true → Agrees k program p ws o)) (sym e.1) (cut_on p ws z m h))
  happens_on (amend r w) p ws vs z m n h e =
      let off = off_when m.running refusal.Running (cond (leb r 15) None (Some refusal.Register)) e.0 in (
        subst (λ (us : List ℕ). Kept k program (with_register p r w) us z n) (sym e.2)
            (subst (Kept k program (with_register p r w) ws z) (sym e.1)
            (subst (λ (o : Option Refusal). Kept k program (unless o (with_register p r w) p) ws z (amend_leaves m r w)) e.0 (amend_on p ws z m r w h))),
        no_report m.running n.running off,
      )
  happens_on (take_up s) p ws vs z m n h e =
      let off = off_when m.running refusal.Running (result_err (read_words e.0)) e.1 in (
        subst (λ (us : List ℕ). Kept k program (with_state p s) us z n) (sym e.4)
            (subst (Kept k program (with_state p s) ws z) (sym e.3) (take_up_on p ws z m e.0 s off e.2 h)),
        no_report m.running n.running off,
      )
  happens_on (resume c) p ws vs z m n h e =
      let off = off_when m.running refusal.Running (cond (leb c 65535) None (Some refusal.Counter)) e.0 in (
        subst (λ (us : List ℕ). Kept k program (with_counter p c) us 0 n) (sym e.2)
            (subst (Kept k program (with_counter p c) ws 0) (sym e.1)
            (subst (λ (o : Option Refusal). Kept k program (unless o (with_counter p c) p) ws (unless o 0 z) (resume_leaves m c)) e.0 (resume_on p ws z m c h))),
        no_report m.running n.running off,
      )
  happens_on other p ws vs z m n h e =
      subst (λ (us : List ℕ). Kept k program p us z n × (reported m n ≡ true → Agrees k program p us n)) (sym e.1)
      (⊎_elim
      (λ (same : n ≡ m). (subst (Kept k program p ws z) (sym same) h, no_change m.running n.running (ap (λ (o : Machine). o.running) same)))
      (λ (same : n ≡ request_leaves m). (subst (Kept k program p ws z) (sym same) (request_on p ws z m h), no_change m.running n.running (ap (λ (o : Machine). o.running) same ∙ request_running m)))
      (other_is e.0))

  -- no event touches the delays
  keeps_delays : (d : Deed) (ws vs : List ℕ) (m n : Machine) → Happens k program m ws d n vs → n.delays ≡ m.delays
  keeps_delays (step r) ws vs m n st = by (step_refusal m (length program) (length ws)) refl
    where
      ends : (q : Pipe) (e : Ending) → (after_ending m q e).delays ≡ m.delays
      ends q (ending.Issued c) = refl
      ends q (ending.Stored c) = refl
      ends q (ending.Held x) = refl
      ends q (ending.Stopped c) = refl

      by : (o : Option Refusal) → step_refusal m (length program) (length ws) ≡ o → n.delays ≡ m.delays
      by (Some y) e = ap (λ (t : Step). t.machine.delays) (st.is ∙ ap (step_by k m program ws st.tag) e)
      by None e =
          let u = step_turn k m program ws st.tag in
          ap (λ (t : Step). t.machine.delays) (st.is ∙ ap (step_by k m program ws st.tag) e) ∙ ends u.pipe u.ending
  keeps_delays cut ws vs m n e = ap (λ (y : Machine). y.delays) e.1 ∙ unless_delays (stopped_refusal m) (cut_off m) m refl
  keeps_delays (amend r w) ws vs m n e = ap (λ (y : Machine). y.delays) e.1 ∙ unless_delays (amend_refusal m r) (amended m r w) m refl
  keeps_delays (take_up s) ws vs m n e = ap (λ (y : Machine). y.delays) e.3 ∙ by m.running (read_words e.0)
    where
      by : (b : Bool) (r : Result Snapshot Refusal) → (cond b m (take_up_by m r)).delays ≡ m.delays
      by true r = refl
      by false (Ok x) = refl
      by false (Err x) = refl
  keeps_delays (resume c) ws vs m n e = ap (λ (y : Machine). y.delays) e.1 ∙ unless_delays (resume_refusal m c) (resumed m c) m refl
  keeps_delays other ws vs m n e = ⊎_elim (λ (same : n ≡ m). ap (λ (y : Machine). y.delays) same) (λ (same : n ≡ request_leaves m). ap (λ (y : Machine). y.delays) same ∙ unless_delays (stopped_refusal m) (marked m) m refl) (other_is e.0)

  -- a life from a load on
  module _ (old : Machine) (ds : List ℕ) (c pl dl : ℕ) (ws : List ℕ) (u : length ds ≡ 4) (ok : load_refusal old ds c pl dl ≡ None) where
    lives_kept : {es : List Event} {n : Machine} {vs : List ℕ} → Life k program (load_leaves old ds c pl dl) ws es n vs → Kept k program (plain_beside program ws es) vs (quiet_steps es) n
    lives_kept start = load_on old ds c pl dl ws u ok
    lives_kept (next {es = es} {n = n} {o = o} {vs = vs} {us = us} d l h) = (happens_on d (plain_beside program ws es) vs us (quiet_steps es) n o (lives_kept l) h).0

    same_delays : {es : List Event} {n : Machine} {vs : List ℕ} → Life k program (load_leaves old ds c pl dl) ws es n vs → n.delays ≡ ds
    same_delays start = ap (λ o. (unless o (loaded ds c pl dl) old).delays) ok
    same_delays (next {n = n} {o = o} {vs = vs} {us = us} d l h) = keeps_delays d vs us n o h ∙ same_delays l

    lives_precise : {es : List Event} {n : Machine} {vs : List ℕ} → Life k program (load_leaves old ds c pl dl) ws es n vs → Precise k program ws (longest_of ds) es
    lives_precise start = tt
    lives_precise (next {es = es} {n = n} {o = o} {vs = vs} {us = us} d l h) =
        let on = happens_on d (plain_beside program ws es) vs us (quiet_steps es) n o (lives_kept l) h in
        (on.1, subst (λ xs. quiet_after (quiet_steps es) d n o ≤ longest_of xs) (same_delays (next d l h)) (bounded (plain_after program (plain_beside program ws es) d n o) us (quiet_after (quiet_steps es) d n o) o o.running on.0.life), lives_precise l)

pub lives_are_precise : LivesArePrecise
lives_are_precise k program ws old ds c pl dl es n vs u ok l = lives_precise k program old ds c pl dl ws u ok l

pub stopped_cores_agree : StoppedCoresAgree
stopped_cores_agree k program ws old ds c pl dl es n vs u ok l off =
    let i = idle_from k program (plain_beside program ws es) vs (quiet_steps es) n off (lives_kept k program old ds c pl dl ws u ok l) in
    (stopped_registers k program n (plain_beside program ws es).registers off i.empty (sym i.registers) i.wide, i.words)
