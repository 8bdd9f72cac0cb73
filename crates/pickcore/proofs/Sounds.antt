-- Every call keeps a core sound.
use Rattle.std.proofs.Common.{◌≡◌, ℕ, suc, ◌+◌, ◌-◌, ◌<◌, ◌≤◌, Bool, true, false, cond, not, ◌&&◌, eqb, ltb, leb, List, [], ◌∷◌, ◌++◌, length, get_or, drop, set, replicate, Some, None, Ok, Err, Option, sym, refl, ap, ◌∙◌, subst, arith, lit≤, length-append, length-set, Result}
use Rattle.std.proofs.lemmas.Bool.{leb-false, ltb-true, and_parts, eqb-true}
use Rattle.isa.specs.declared.fault.Fault.{Fault}
use Rattle.isa.specs.declared.fault.Fault.TheVariants as fault
use Rattle.isa.specs.declared.fault.Cause.{Cause}
use Rattle.isa.specs.declared.fault.Cause.TheVariants as cause
use Rattle.isa.specs.declared.refusal.Refusal.{Refusal}
use Rattle.isa.specs.declared.words.Kind.{Kind}
use Rattle.isa.specs.declared.words.Kind.TheVariants as kind
use Rattle.isa.specs.Numbers.{cause_or_0, fault_number}
use Rattle.isa.specs.declared.refusal.Refusal.TheVariants as refusal
use Rattle.isa.specs.Words.{decoded, legal, kind_of, kind_bits, d_bits, a_bits, b_bits, n_bits}
use Rattle.isa.specs.Table.{Instr, halt, store, work, jump, fetched, instruction, row, target, branches, first, second}
use Rattle.recovery.specs.declared.Status.{Status}
use Rattle.recovery.specs.declared.Status.TheVariants.{Pending, Done, Faulted}
use Rattle.recovery.specs.declared.Timing.{Timing}
use Rattle.recovery.specs.declared.Trap.{Trap}
use Rattle.recovery.specs.Meaning.{Meaning, Entry, has_tag, is_pending, ended, put, new_entry, retire_answer, retire_flight, retire_status, retire_leaves, settle_oldest, settle}
use Rattle.pickcore.specs.declared.record.Ending.{Ending}
use Rattle.pickcore.specs.declared.record.Ending.TheVariants.{Issued, Stored, Held, Stopped}
use Rattle.pickcore.specs.declared.stages.Stage.{Stage}
use Rattle.pickcore.specs.Limits.{stretch}
use Rattle.pickcore.specs.Cycle.{Setting, Pipe, Turn, arrived, moved, settled, emptied, delivers, front, retiring, cycle, flight_at_admission}
use Rattle.pickcore.specs.Calls.{Machine, goes_on, after_ending, step_refusal, Step, step_turn, step_by, Steps}
use Rattle.pickcore.specs.Model.{setting}
use Rattle.pickcore.specs.Sound.{Counters, Tied, Sound}
use Rattle.pickcore.proofs.Ties.{tied_end, tied_none, tied_delivered, tied_retired, tied_more, tied_issued, counters_delivered, counters_more, length_delivered}
use Rattle.pickcore.proofs.Cycles.{stays}
use Rattle.pickcore.proofs.Ways.{Way, stopped, held, wrote, issued, jumped, front_way}

-- a pipe in a sound core, after at most n issues
pub record Healthy (n : ℕ) (p : Pipe) : Type 0 where
  pub tied : Tied p.scheme.flight p.stages
  pub paced : p.count + length p.scheme.flight ≤ n
  pub next : p.next ≤ 65535
  pub counters : Counters p.scheme.flight
  pub registers : length p.scheme.settled ≡ 16
  pub stages : length p.stages ≡ 16

-- a pipe that nothing moves in
pub record Empty (n : ℕ) (p : Pipe) : Type 0 where
  pub flight : p.scheme.flight ≡ []
  pub stages : p.stages ≡ replicate 16 None
  pub count : p.count ≤ n
  pub next : p.next ≤ 65535
  pub registers : length p.scheme.settled ≡ 16

-- rules 1 and 2

abbrev arrived_by : Pipe → List (Option Stage) → Pipe
arrived_by p xs = record { scheme = delivers p.scheme (get_or xs 0 None); stages = set xs 0 None; next = p.next; count = p.count }

arrived_healthy : (n : ℕ) (p : Pipe) → Healthy n p → Healthy n (arrived p)
arrived_healthy n p h = go p.stages h.tied h.stages
  where
    go : (xs : List (Option Stage)) → Tied p.scheme.flight xs → length xs ≡ 16 → Healthy n (arrived_by p xs)
    go [] k l = record { tied = k; paced = h.paced; next = h.next; counters = h.counters; registers = h.registers; stages = l }
    go (None ∷ xs) k l = record { tied = k; paced = h.paced; next = h.next; counters = h.counters; registers = h.registers; stages = l }
    go (Some x ∷ xs) k l = record {
      tied = tied_delivered x.tag (ended x.result) p.scheme.flight xs k.2 k.1;
      paced = let e = length_delivered x.tag (ended x.result) p.scheme.flight in let o = h.paced in rw e o;
      next = h.next;
      counters = counters_delivered x.tag (ended x.result) p.scheme.flight h.counters;
      registers = h.registers;
      stages = l;
    }

abbrev moved_by : Pipe → List (Option Stage) → Pipe
moved_by p xs = record { scheme = p.scheme; stages = drop 1 xs ++ (None ∷ []); next = p.next; count = p.count }

moved_healthy : (n : ℕ) (p : Pipe) → Healthy n p → Healthy n (moved p)
moved_healthy n p h = go p.stages h.tied h.stages
  where
    go : (xs : List (Option Stage)) → Tied p.scheme.flight xs → length xs ≡ 16 → Healthy n (moved_by p xs)
    go [] k l = absurd (omega arith)
    go (None ∷ xs) k l = record { tied = tied_end p.scheme.flight xs k; paced = h.paced; next = h.next; counters = h.counters; registers = h.registers; stages = simp length-append (omega arith) }
    go (Some x ∷ xs) k l = record { tied = tied_end p.scheme.flight xs k.2; paced = h.paced; next = h.next; counters = h.counters; registers = h.registers; stages = simp length-append (omega arith) }

-- rule 3

length_put : (ws : List ℕ) (d : Option ℕ) (w : ℕ) → length (put ws d w) ≡ length ws
length_put ws None w = refl
length_put ws (Some d) w = length-set ws d w

abbrev settled_by : Pipe → Meaning → Pipe
settled_by p m = record { scheme = m; stages = p.stages; next = p.next; count = p.count + 1 }

settled_healthy : (n c : ℕ) (p : Pipe) → Ok (Some c) ≡ retire_answer p.scheme → Healthy n p → Healthy n (settled p)
settled_healthy n c p a h = go p.scheme.flight a h.tied h.counters h.paced
  where
    one : (e : Entry) (es : List Entry) (y : Status) → e.status ≡ y → Ok (Some c) ≡ retire_status e.counter y → Tied (e ∷ es) p.stages → Counters (e ∷ es) → p.count + suc (length es) ≤ n
        → Healthy n (settled_by p (settle p.scheme es e.destination y))
    one e es Pending s b k cs l = let z : ◌≡◌ {A = ℕ} 0 1 = cc in absurd (omega arith)
    one e es (Faulted f) s b k cs l = let z : ◌≡◌ {A = ℕ} 0 1 = cc in absurd (omega arith)
    one e es (Done w) s b k cs l = record {
      tied = tied_retired e es p.stages (ap is_pending s) k;
      paced = omega arith;
      next = h.next;
      counters = cs.1;
      registers = length_put p.scheme.settled e.destination w ∙ h.registers;
      stages = h.stages;
    }

    go : (es : List Entry) → Ok (Some c) ≡ retire_flight es → Tied es p.stages → Counters es → p.count + length es ≤ n → Healthy n (settled_by p (settle_oldest p.scheme es))
    go [] b k cs l = let z : ◌≡◌ {A = ℕ} 0 1 = cc in absurd (omega arith)
    go (e ∷ es) b k cs l = one e es e.status refl b k cs l

-- a stop

pub emptied_empty : (n c : ℕ) (p : Pipe) → c ≤ 65535 → Healthy n p → Empty n (emptied p c)
emptied_empty n c p l h = record { flight = refl; stages = refl; count = let k = h.paced in omega arith; next = l; registers = h.registers }

-- counters stay in 16 bits: an instruction stands below the program's length, and a branch goes to a number of 16 bits

abbrev pub Narrow : ℕ → Instr → Type 0
Narrow n (halt f) = Unit {0}
Narrow n (store rs f) = n + 1 ≤ 65535
Narrow n (work u d rs f) = n + 1 ≤ 65535
Narrow n (jump rs f) = (xs : List ℕ) → f xs n ≤ 65535

target_narrow : (k : Kind) (n : ℕ) (xs : List ℕ) (c : ℕ) → n ≤ 65535 → c + 1 ≤ 65535 → target k n xs c ≤ 65535
target_narrow k n xs c h l = pick (branches k (first xs) (second xs))
  where
    pick : (b : Bool) → cond b n (c + 1) ≤ 65535
    pick true = h
    pick false = l

row_narrow : (k : Kind) (d a b n c : ℕ) → n ≤ 65535 → c + 1 ≤ 65535 → Narrow c (row k d a b n)
row_narrow kind.Stop d a b n c h l = tt
row_narrow kind.Set d a b n c h l = l
row_narrow kind.Add d a b n c h l = l
row_narrow kind.Subtract d a b n c h l = l
row_narrow kind.ExclusiveOr d a b n c h l = l
row_narrow kind.Multiply d a b n c h l = l
row_narrow kind.Divide d a b n c h l = l
row_narrow kind.CheckedAdd d a b n c h l = l
row_narrow kind.Load d a b n c h l = l
row_narrow kind.Store d a b n c h l = l
row_narrow kind.BranchEqual d a b n c h l = λ xs. target_narrow kind.BranchEqual n xs c h l
row_narrow kind.BranchUnequal d a b n c h l = λ xs. target_narrow kind.BranchUnequal n xs c h l

instruction_narrow : (w c : ℕ) → c + 1 ≤ 65535 → Narrow c (instruction (decoded w))
instruction_narrow w c l = pick (legal w)
  where
    pick : (b : Bool) → Narrow c (instruction (cond b (Ok (kind_of (kind_bits w), d_bits w, a_bits w, b_bits w, n_bits w)) (Err refusal.NotAnInstruction)))
    pick true = row_narrow (kind_of (kind_bits w)) (d_bits w) (a_bits w) (b_bits w) (n_bits w) c (omega arith) l
    pick false = tt

pub fetched_narrow : (program : List ℕ) (c : ℕ) → length program ≤ 4096 → Narrow c (fetched program c)
fetched_narrow program c l = pick (ltb c (length program)) refl
  where
    pick : (b : Bool) → ltb c (length program) ≡ b → Narrow c (cond b (instruction (decoded (get_or program c 0))) (halt fault.PastEnd))
    pick true h = let k = ltb-true c (length program) h in instruction_narrow (get_or program c 0) c (omega arith)
    pick false h = tt

-- rules 4 to 7, by their ways

-- the pipe after a cycle: nothing moves in it where the core stopped
abbrev pub Fine : ℕ → Pipe → Ending → Type 0
Fine n p (Issued c) = Healthy n p
Fine n p (Stored c) = Healthy n p
Fine n p (Held h) = Healthy n p
Fine n p (Stopped c) = Empty n p

way_fine : (n : ℕ) (s : Setting) (t : ℕ) (p : Pipe) (ws : List ℕ) (i : Instr) (x : Turn) → Narrow p.next i → has_tag t p.scheme.flight ≡ false → Healthy n p → Way s t p ws i x
    → Fine (n + 1) x.pipe x.ending
way_fine n s t p ws i x w f h (stopped c e) =
    record { flight = refl; stages = refl; count = let k = h.paced in omega arith; next = h.next; registers = h.registers }
way_fine n s t p ws i x w f h (held y) =
    record { tied = h.tied; paced = let k = h.paced in omega arith; next = h.next; counters = h.counters; registers = h.registers; stages = h.stages }
way_fine n s t p ws i x w f h (wrote {rs = rs} {f = g} vs e none) =
    record { tied = h.tied; paced = let k = h.paced in omega (arith, ap length none); next = subst (Narrow p.next) e w; counters = h.counters; registers = h.registers; stages = h.stages }
way_fine n s t p ws i x w f h (issued {rs = rs} {f = g} {u = u} d r e o) =
    record {
      tied = tied_issued t p.next d r p.scheme.flight p.stages (s.delay u - 1) o f h.tied;
      paced = let k = h.paced in simp length-append (omega arith);
      next = subst (Narrow p.next) e w;
      counters = counters_more p.scheme.flight (new_entry t p.next (Some d)) h.next h.counters;
      registers = h.registers;
      stages = length-set p.stages (s.delay u - 1) (Some (record { tag = t; result = r })) ∙ h.stages;
    }
way_fine n s t p ws i x w f h (jumped {rs = rs} {f = g} xs e) =
    record {
      tied = tied_more p.scheme.flight (new_entry t p.next None) p.stages h.tied;
      paced = let k = h.paced in simp length-append (omega arith);
      next = subst (Narrow p.next) e w xs;
      counters = counters_more p.scheme.flight (new_entry t p.next None) h.next h.counters;
      registers = h.registers;
      stages = h.stages;
    }

-- a whole cycle

faulted_counter : (c : ℕ) (f : Fault) (es : List Entry) → Err (record { counter = c; fault = f }) ≡ retire_flight es → Counters es → c ≤ 65535
faulted_counter c f [] a k = let z : ◌≡◌ {A = ℕ} 0 1 = cc in absurd (omega arith)
faulted_counter c f (e ∷ es) a k = one e.status a
  where
    one : (y : Status) → Err (record { counter = c; fault = f }) ≡ retire_status e.counter y → c ≤ 65535
    one Pending b = let z : ◌≡◌ {A = ℕ} 0 1 = cc in absurd (omega arith)
    one (Done w) b = let z : ◌≡◌ {A = ℕ} 0 1 = cc in absurd (omega arith)
    one (Faulted g) b =
        let q : ◌≡◌ {A = Trap} (record { counter = c; fault = f }) (record { counter = e.counter; fault = g }) = cc in
        let r : c ≡ e.counter = ap (λ (x : Trap). x.counter) q in
        let l = k.0 in
        omega arith

module _ (s : Setting) (narrow : (c : ℕ) → Narrow c (s.code c)) (b : Bool) (t : ℕ) (ws : List ℕ) where
  front_fine : (n : ℕ) (p : Pipe) → has_tag t p.scheme.flight ≡ false → Healthy n p → Fine (n + 1) (front s b t p ws).pipe (front s b t p ws).ending
  front_fine n p f h = way_fine n s t p ws (s.code p.next) (front s b t p ws) (narrow p.next) f h (front_way s b t p ws)

  retiring_fine : (n : ℕ) (p : Pipe) (r : Result (Option ℕ) Trap) → r ≡ retire_answer p.scheme → has_tag t (retire_leaves p.scheme).flight ≡ false → Healthy n p
      → Fine (n + 1) (retiring s b t p ws r).pipe (retiring s b t p ws r).ending
  unfolding retiring
  retiring_fine n p (Ok None) a f h = front_fine n p (subst (λ (m : Meaning). has_tag t m.flight ≡ false) (stays p.scheme (Ok None) a refl) f) h
  retiring_fine n p (Ok (Some c)) a f h = front_fine n (settled p) f (settled_healthy n c p a h)
  retiring_fine n p (Err x) a f h =
      emptied_empty (n + 1) x.counter p (faulted_counter x.counter x.fault p.scheme.flight a h.counters)
      (record { tied = h.tied; paced = let k = h.paced in omega arith; next = h.next; counters = h.counters; registers = h.registers; stages = h.stages })

  pub cycle_fine : (n : ℕ) (p : Pipe) → has_tag t (flight_at_admission p) ≡ false → Healthy n p → Fine (n + 1) (cycle s b t p ws).pipe (cycle s b t p ws).ending
  unfolding cycle
  cycle_fine n p f h = retiring_fine n (moved (arrived p)) (retire_answer (moved (arrived p)).scheme) refl f (moved_healthy n (arrived p) (arrived_healthy n p h))

-- a cycle raises the count by two at the most

way_rise : (s : Setting) (t : ℕ) (p : Pipe) (ws : List ℕ) (i : Instr) (x : Turn) → Way s t p ws i x → x.pipe.count ≤ p.count + 1
way_rise s t p ws i x (stopped c e) = omega arith
way_rise s t p ws i x (held y) = omega arith
way_rise s t p ws i x (wrote vs e none) = omega arith
way_rise s t p ws i x (issued d r e o) = omega arith
way_rise s t p ws i x (jumped xs e) = omega arith

retiring_rise : (s : Setting) (b : Bool) (t : ℕ) (p : Pipe) (ws : List ℕ) (r : Result (Option ℕ) Trap) → (retiring s b t p ws r).pipe.count ≤ p.count + 2
unfolding retiring
retiring_rise s b t p ws (Ok None) = let k = way_rise s t p ws (s.code p.next) (front s b t p ws) (front_way s b t p ws) in omega arith
retiring_rise s b t p ws (Ok (Some c)) = let k = way_rise s t (settled p) ws (s.code p.next) (front s b t (settled p) ws) (front_way s b t (settled p) ws) in omega arith
retiring_rise s b t p ws (Err x) = omega arith

pub cycle_rise : (s : Setting) (b : Bool) (t : ℕ) (p : Pipe) (ws : List ℕ) → (cycle s b t p ws).pipe.count ≤ p.count + 2
unfolding cycle
cycle_rise s b t p ws = retiring_rise s b t (moved (arrived p)) ws (retire_answer (moved (arrived p)).scheme)

-- the calls

fault_below : (f : Fault) → fault_number f ≤ 8
fault_below fault.DivideByZero = lit≤ tt
fault_below fault.Overflow = lit≤ tt
fault_below fault.Address = lit≤ tt
fault_below fault.Illegal = lit≤ tt
fault_below fault.PastEnd = lit≤ tt
fault_below fault.Stop = lit≤ tt

pub cause_below : (c : Option Cause) → cause_or_0 c ≤ 8
cause_below None = lit≤ tt
cause_below (Some (cause.Fault f)) = fault_below f
cause_below (Some cause.Request) = lit≤ tt
cause_below (Some cause.Cut) = lit≤ tt

healthy : (m : Machine) → m.running ≡ true → Sound m → Healthy m.cycles m.pipe
healthy m r h = record { tied = h.tied; paced = h.paced r; next = h.next; counters = h.counters; registers = h.registers; stages = h.stages }

goes_on_sound : (m : Machine) (p : Pipe) → m.running ≡ true → m.cycles < stretch → Sound m → Healthy (m.cycles + 1) p → Sound (goes_on m p)
goes_on_sound m p r l h k = record {
  idle = λ e. let z : ◌≡◌ {A = ℕ} 0 1 = cc in absurd (omega arith);
  tied = k.tied;
  paced = λ _. k.paced;
  count = let q = k.paced in omega arith;
  cycles = omega arith;
  next = k.next;
  counters = k.counters;
  cause = h.cause;
  registers = k.registers;
  stages = k.stages;
  delays = h.delays;
  program = h.program;
  words = h.words;
}

pub after_sound : (m : Machine) (p : Pipe) (e : Ending) → m.running ≡ true → m.cycles < stretch → Sound m → Fine (m.cycles + 1) p e → Sound (after_ending m p e)
after_sound m p (Issued c) r l h k = goes_on_sound m p r l h k
after_sound m p (Stored c) r l h k = goes_on_sound m p r l h k
after_sound m p (Held y) r l h k = goes_on_sound m p r l h k
after_sound m p (Stopped c) r l h k = record {
  idle = λ _. (k.flight, k.stages);
  tied = subst (Tied p.scheme.flight) (sym k.stages) (tied_none p.scheme.flight 16);
  paced = λ e. let z : ◌≡◌ {A = ℕ} 0 1 = cc in absurd (omega arith);
  count = let q = k.count in omega arith;
  cycles = omega arith;
  next = k.next;
  counters = subst Counters (sym k.flight) tt;
  cause = cause_below (Some c);
  registers = k.registers;
  stages = ap length k.stages;
  delays = h.delays;
  program = h.program;
  words = h.words;
}

-- what it means that a step is not refused
pub record Steppable (m : Machine) (p d : ℕ) : Type 0 where
  pub running : m.running ≡ true
  pub program : p ≡ m.program_length
  pub words : d ≡ m.data_length
  pub left : m.cycles < stretch

pub steppable : (m : Machine) (p d : ℕ) → step_refusal m p d ≡ None → Steppable m p d
steppable m p d h = by m.running refl h
  where
    within : (b : Bool) → leb stretch m.cycles ≡ b → cond b (Some refusal.Stretch) None ≡ None → m.cycles < stretch
    within true e k = let z : ◌≡◌ {A = ℕ} 0 1 = cc in absurd (omega arith)
    within false e k = leb-false stretch m.cycles e

    lengths : (b : Bool) → (eqb p m.program_length && eqb d m.data_length) ≡ b → cond (not b) (Some refusal.Length) (cond (leb stretch m.cycles) (Some refusal.Stretch) None) ≡ None
        → (p ≡ m.program_length) × (d ≡ m.data_length) × (m.cycles < stretch)
    lengths true e k =
        let q = and_parts (eqb p m.program_length) (eqb d m.data_length) e in
        (eqb-true p m.program_length q.0, eqb-true d m.data_length q.1, within (leb stretch m.cycles) refl k)
    lengths false e k = let z : ◌≡◌ {A = ℕ} 0 1 = cc in absurd (omega arith)

    by : (b : Bool) → m.running ≡ b → cond (not b) (Some refusal.Stopped) (cond (not (eqb p m.program_length && eqb d m.data_length)) (Some refusal.Length) (cond (leb stretch m.cycles) (Some refusal.Stretch) None)) ≡ None → Steppable m p d
    by true e k = let q = lengths (eqb p m.program_length && eqb d m.data_length) refl k in record { running = e; program = q.0; words = q.1; left = q.2 }
    by false e k = let z : ◌≡◌ {A = ℕ} 0 1 = cc in absurd (omega arith)

pub steps_sound : (k : Timing) (m : Machine) (program ws : List ℕ) (s : Step) → Steps k m program ws s → Sound m → Sound s.machine
steps_sound k m program ws s st h = subst (λ (y : Step). Sound y.machine) (sym st.is) (by (step_refusal m (length program) (length ws)) refl)
  where
    by : (o : Option Refusal) → step_refusal m (length program) (length ws) ≡ o → Sound (step_by k m program ws st.tag o).machine
    by (Some x) e = h
    by None e =
        let q = steppable m (length program) (length ws) e in
        after_sound m (step_turn k m program ws st.tag).pipe (step_turn k m program ws st.tag).ending q.running q.left h
        (cycle_fine (setting k m.delays program) (λ c. fetched_narrow program c (let l = h.program in omega (arith, q.program))) m.requested st.tag ws m.cycles m.pipe st.free (healthy m q.running h))
