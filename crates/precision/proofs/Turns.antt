-- Every cycle keeps a pipe beside the plain machine.
use Rattle.std.proofs.Common.{◌≡◌, ℕ, ◌+◌, ◌-◌, ◌<◌, Bool, false, List, [], ◌∷◌, ◌++◌, length, get_or, drop, set, Some, None, Ok, Err, Option, Result, sym, refl, ap, ◌∙◌, subst, add-one, arith, length-append, length-set}
use Rattle.isa.specs.declared.fault.Fault.{Fault}
use Rattle.isa.specs.declared.fault.Cause.{Cause}
use Rattle.isa.specs.declared.fault.Cause.TheVariants as cause
use Rattle.isa.specs.Table.{Instr}
use Rattle.isa.specs.Plain.{Plain, reads, executed, worked}
use Rattle.recovery.specs.declared.Status.{Status}
use Rattle.recovery.specs.declared.Status.TheVariants.{Pending, Done, Faulted}
use Rattle.recovery.specs.declared.Trap.{Trap}
use Rattle.recovery.specs.Meaning.{Meaning, Entry, has_tag, is_pending, ended, put, with_status, new_entry, oldest_answer, oldest_of, retire_answer, retire_flight, retire_status, retire_leaves, settle_oldest, settle}
use Rattle.pickcore.specs.declared.stages.Stage.{Stage}
use Rattle.pickcore.specs.Cycle.{Setting, Pipe, Turn, arrived, moved, settled, emptied, delivers, looks, front, retiring, cycle, flight_at_admission}
use Rattle.pickcore.specs.Sound.{Tied}
use Rattle.pickcore.proofs.Cycles.{stays}
use Rattle.pickcore.proofs.Ties.{tied_end, tied_delivered, tied_none, tied_retired, tied_more, tied_issued}
use Rattle.precision.specs.Steps.{one_more, steps}
use Rattle.precision.specs.Fit.{Fit, Sane}
use Rattle.precision.specs.Beside.{fate, come_to, foreseen, Follows, end, trap, on, Matches, Runs, Ends, Held}
use Rattle.precision.specs.Results.{StartsBeside}
use Rattle.precision.proofs.Plan.{fate_known, foreseen_moved, foreseen_more, foreseen_issued, fate_issued}
use Rattle.precision.proofs.Follow.{length_put, follow_end, follow_at, follow_done, follow_fault, follow_issue}
use Rattle.precision.proofs.Fronts.{issue, Went, met, failed, wrote, kept, issued, jumped, front_went}

-- rules 1 and 2

moved_rows : (xs : List (Option Stage)) → length xs ≡ 16 → length (drop 1 (set xs 0 None) ++ (None ∷ [])) ≡ 16
moved_rows [] l = absurd (omega arith)
moved_rows (x ∷ xs) l = simp length-append (omega arith)

moved_tied : (m : Meaning) (xs : List (Option Stage)) → Tied m.flight xs → Tied (delivers m (get_or xs 0 None)).flight (drop 1 (set xs 0 None) ++ (None ∷ []))
moved_tied m [] k = tt
moved_tied m (None ∷ xs) k = tied_end m.flight xs k
moved_tied m (Some x ∷ xs) k =
    tied_end (delivers m (Some x)).flight xs (tied_delivered x.tag (ended x.result) m.flight xs k.2 k.1)

-- a delivery changes the flight alone

delivers_settled : (m : Meaning) (o : Option Stage) → (delivers m o).settled ≡ m.settled
delivers_settled m None = refl
delivers_settled m (Some x) = refl

delivers_capacity : (m : Meaning) (o : Option Stage) → (delivers m o).capacity ≡ m.capacity
delivers_capacity m None = refl
delivers_capacity m (Some x) = refl

moved_matches : (s : Setting) (q : Plain) (p : Pipe) (ws : List ℕ) → Matches s q p ws → Matches s q (moved (arrived p)) ws
moved_matches s q p ws h = record {
  registers = h.registers ∙ sym (delivers_settled p.scheme (get_or p.stages 0 None));
  words = h.words;
  wide = h.wide;
  roomy = let k = h.roomy in omega (arith, delivers_capacity p.scheme (get_or p.stages 0 None));
  rows = moved_rows p.stages h.rows;
  tied = moved_tied p.scheme p.stages h.tied;
  follows = rw (foreseen_moved p.scheme p.stages) h.follows;
}

-- one step more of the plain machine
ran_more : (code : ℕ → Instr) (n : ℕ) (base q r : Plain) → steps code n base ≡ Ok q → executed (code q.counter) q ≡ Ok r → steps code (n + 1) base ≡ Ok r
ran_more code n base q r h k = rw add-one (ap (one_more code) h ∙ k)

-- the new entry of an instruction with a result
work_follows : (code : ℕ → Instr) (n t d : ℕ) (r : Result ℕ Fault) (y : Status) (z : Plain) → y ≡ ended r → d < 16 → z.counter ≡ n → executed (code z.counter) z ≡ worked z d r
    → Follows code (n + 1) z (with_status (new_entry t n (Some d)) y ∷ [])
work_follows code n t d (Ok w) y z e l at does =
    on {r = record { registers = set z.registers d w; words = z.words; counter = z.counter + 1 }} w (sym at) e does refl refl l (end (ap (λ k. k + 1) at))
work_follows code n t d (Err f) y z e l at does = trap f (sym at) e does

-- a pipe past a retirement that left the scheme m
abbrev settled_by : Pipe → Meaning → Pipe
settled_by p m = record { scheme = m; stages = p.stages; next = p.next; count = p.count + 1 }

-- a pipe at the start of a run
pub idle_runs : StartsBeside
idle_runs s p ws flight stages count wide roomy = record {
  now = record { registers = p.scheme.settled; words = ws; counter = p.next };
  ran = rw count;
  here = record {
    registers = refl;
    words = refl;
    wide = wide;
    roomy = roomy;
    rows = ap length stages;
    tied = subst (Tied p.scheme.flight) (sym stages) (tied_none p.scheme.flight 16);
    follows = rw flight (end refl);
  };
}

module _ (s : Setting) (base : Plain) where
  pub moved_runs : (p : Pipe) (ws : List ℕ) → Runs s base p ws → Runs s base (moved (arrived p)) ws
  moved_runs p ws r = record { now = r.now; ran = r.ran; here = moved_matches s r.now p ws r.here }

  -- a stop, at the counter where the plain machine stands
  stop_at : (q : Plain) (p : Pipe) (ws : List ℕ) (c : Cause) (n : ℕ) → steps s.code p.count base ≡ Ok q → Matches s q p ws → q.counter ≡ n
      → ((f : Fault) → c ≡ cause.Fault f → executed (s.code q.counter) q ≡ Err f) → Ends s base c (emptied p n) ws
  stop_at q p ws c n ran h at why = record {
    now = q;
    ran = ran;
    registers = h.registers;
    words = h.words;
    counter = at;
    fault = why;
    wide = h.wide;
    roomy = h.roomy;
    empty = refl;
    clear = refl;
  }

  -- with nothing in flight the plain machine stands at the next counter
  at_next : (q : Plain) (p : Pipe) (ws : List ℕ) → Matches s q p ws → p.scheme.flight ≡ [] → q.counter ≡ p.next
  at_next q p ws h e = follow_end s.code p.next q (subst (λ es. Follows s.code p.next q (foreseen p.stages es)) e h.follows)

  -- an issue: the plain machine takes the new entry's step too, once it has taken those of the flight
  issue_runs : (t : ℕ) (p : Pipe) (ws : List ℕ) (d : Option ℕ) (stages : List (Option Stage)) (n : ℕ) (rs xs : List ℕ) → Runs s base p ws → length stages ≡ 16
      → Tied (p.scheme.flight ++ (new_entry t p.next d ∷ [])) stages
      → foreseen stages (p.scheme.flight ++ (new_entry t p.next d ∷ [])) ≡ foreseen p.stages p.scheme.flight ++ (come_to stages (new_entry t p.next d) ∷ [])
      → looks s.timing p.scheme rs ≡ Some xs
      → ((z : Plain) → z.counter ≡ p.next → z.words ≡ ws → reads z.registers rs ≡ xs → Follows s.code n z (come_to stages (new_entry t p.next d) ∷ []))
      → Runs s base (issue t p ws d stages n).pipe ws
  issue_runs t p ws d stages n rs xs r rows tied more look each =
      let h = r.here in
      record {
        now = r.now;
        ran = r.ran;
        here = record {
          registers = h.registers;
          words = h.words;
          wide = h.wide;
          roomy = h.roomy;
          rows = rows;
          tied = tied;
          follows = rw more
              (follow_issue s.code p.next n s.timing p.scheme.capacity rs xs ws (come_to stages (new_entry t p.next d)) p.stages p.scheme.flight r.now
              each h.words h.wide (rw h.registers look) h.follows);
        };
      }

  -- rule 3: the plain machine goes along with the oldest entry, or has its fault

  pub settled_runs : (p : Pipe) (ws : List ℕ) (c : ℕ) → Ok (Some c) ≡ retire_answer p.scheme → Runs s base p ws → Runs s base (settled p) ws
  settled_runs p ws c a r = go p.scheme.flight a r.here.tied r.here.follows
    where
      one : (e : Entry) (es : List Entry) (y : Status) → e.status ≡ y → Ok (Some c) ≡ retire_status e.counter y → Tied (e ∷ es) p.stages
          → Follows s.code p.next r.now (foreseen p.stages (e ∷ es)) → Runs s base (settled_by p (settle p.scheme es e.destination y)) ws
      one e es Pending v b k f = let z : ◌≡◌ {A = ℕ} 0 1 = cc in absurd (omega arith)
      one e es (Faulted g) v b k f = let z : ◌≡◌ {A = ℕ} 0 1 = cc in absurd (omega arith)
      one e es (Done w) v b k f =
          let h = r.here in
          let comes = ap (fate p.stages e.tag) v ∙ fate_known p.stages e.tag (Done w) refl in
          let d = follow_done s.code p.next r.now (come_to p.stages e) (foreseen p.stages es) w comes f in
          record {
            now = d.0;
            ran = ran_more s.code p.count base r.now d.0 r.ran d.1;
            here = record {
              registers = d.2 ∙ ap (λ xs. put xs e.destination w) h.registers;
              words = d.3 ∙ h.words;
              wide = ap length d.2 ∙ (length_put r.now.registers e.destination w ∙ h.wide);
              roomy = h.roomy;
              rows = h.rows;
              tied = tied_retired e es p.stages (ap is_pending v) k;
              follows = d.4;
            };
          }

      go : (es : List Entry) → Ok (Some c) ≡ retire_flight es → Tied es p.stages → Follows s.code p.next r.now (foreseen p.stages es) → Runs s base (settled_by p (settle_oldest p.scheme es)) ws
      go [] b k f = let z : ◌≡◌ {A = ℕ} 0 1 = cc in absurd (omega arith)
      go (e ∷ es) b k f = one e es e.status refl b k f

  faulted_ends : (p : Pipe) (ws : List ℕ) (c : ℕ) (f : Fault) → Err (record { counter = c; fault = f }) ≡ retire_answer p.scheme → Runs s base p ws → Ends s base (cause.Fault f) (emptied p c) ws
  faulted_ends p ws c f a r = go p.scheme.flight a r.here.follows
    where
      one : (e : Entry) (es : List Entry) (y : Status) → e.status ≡ y → Err (record { counter = c; fault = f }) ≡ retire_status e.counter y
          → Follows s.code p.next r.now (foreseen p.stages (e ∷ es)) → Ends s base (cause.Fault f) (emptied p c) ws
      one e es Pending v b k = let z : ◌≡◌ {A = ℕ} 0 1 = cc in absurd (omega arith)
      one e es (Done w) v b k = let z : ◌≡◌ {A = ℕ} 0 1 = cc in absurd (omega arith)
      one e es (Faulted g) v b k =
          let trap : ◌≡◌ {A = Trap} (record { counter = c; fault = f }) (record { counter = e.counter; fault = g }) = cc in
          let here : e.counter ≡ c = sym (ap (λ (x : Trap). x.counter) trap) in
          let same : g ≡ f = sym (ap (λ (x : Trap). x.fault) trap) in
          let comes = ap (fate p.stages e.tag) v ∙ fate_known p.stages e.tag (Faulted g) refl in
          let does = follow_fault s.code p.next r.now (come_to p.stages e) (foreseen p.stages es) g comes k in
          stop_at r.now p ws (cause.Fault f) c r.ran r.here
          (sym (follow_at s.code p.next r.now (come_to p.stages e) (foreseen p.stages es) k) ∙ here)
          (λ x h. let last : g ≡ x = cc in does ∙ ap (λ v. Err v) last)

      go : (es : List Entry) → Err (record { counter = c; fault = f }) ≡ retire_flight es → Follows s.code p.next r.now (foreseen p.stages es) → Ends s base (cause.Fault f) (emptied p c) ws
      go [] b k = let z : ◌≡◌ {A = ℕ} 0 1 = cc in absurd (omega arith)
      go (e ∷ es) b k = one e es e.status refl b k

  -- a cut between two cycles stops the core at the oldest entry's counter, or else at the next
  pub cut_held : (p : Pipe) (ws : List ℕ) (n : ℕ) → Runs s base p ws
      → ((c : ℕ) → oldest_answer p.scheme ≡ Some c → n ≡ c) → (oldest_answer p.scheme ≡ None → n ≡ p.next) → Ends s base cause.Cut (emptied p n) ws
  cut_held p ws n r oldest none =
      stop_at r.now p ws cause.Cut n r.ran r.here (at p.scheme.flight oldest none r.here.follows) (λ f h. let z : ◌≡◌ {A = ℕ} 0 1 = cc in absurd (omega arith))
    where
      at : (es : List Entry) → ((c : ℕ) → oldest_of es ≡ Some c → n ≡ c) → (oldest_of es ≡ None → n ≡ p.next) → Follows s.code p.next r.now (foreseen p.stages es) → r.now.counter ≡ n
      at [] some none k = follow_end s.code p.next r.now k ∙ sym (none refl)
      at (e ∷ es) some none k = sym (follow_at s.code p.next r.now (come_to p.stages e) (foreseen p.stages es) k) ∙ sym (some e.counter refl)

module _ (s : Setting) (longest : ℕ) (fit : Fit s longest) (sane : Sane s) (base : Plain) where
  -- rules 4 to 7, by what they come to

  went_held : (t : ℕ) (p : Pipe) (ws : List ℕ) (x : Turn) → has_tag t p.scheme.flight ≡ false → Runs s base p ws → Went s t p ws x → Held s base x
  went_held t p ws x free r (met e) =
      stop_at s base r.now p ws cause.Request p.next r.ran r.here (at_next s base r.now p ws r.here e) (λ f h. let z : ◌≡◌ {A = ℕ} 0 1 = cc in absurd (omega arith))
  went_held t p ws x free r (failed f e does) =
      let h = r.here in
      let at = at_next s base r.now p ws h e in
      stop_at s base r.now p ws (cause.Fault f) p.next r.ran h at
      (λ g same. let k : f ≡ g = cc in does r.now at h.words h.registers ∙ ap (λ v. Err v) k)
  went_held t p ws x free r (wrote vs e does) =
      let h = r.here in
      let q = r.now in
      let at = at_next s base q p ws h e in
      let after : Plain = record { registers = q.registers; words = vs; counter = q.counter + 1 } in
      record {
        now = after;
        ran = ran_more s.code p.count base q after r.ran (does q at h.words h.registers);
        here = record {
          registers = h.registers;
          words = refl;
          wide = h.wide;
          roomy = h.roomy;
          rows = h.rows;
          tied = h.tied;
          follows = rw e (end (ap (λ n. n + 1) at));
        };
      }
  went_held t p ws x free r (kept y busy) = r
  went_held t p ws x free r (issued u d rs xs v l look slot does) =
      let h = r.here in
      let i : ℕ = s.delay u - 1 in
      let stage : Stage = record { tag = t; result = v } in
      let small : i < length p.stages = omega (arith, fit.least u, fit.most u, fit.short, h.rows) in
      let comes = fate_issued t v p.stages i p.scheme.flight slot free h.tied small in
      issue_runs s base t p ws (Some d) (set p.stages i (Some stage)) (p.next + 1) rs xs r
      (length-set p.stages i (Some stage) ∙ h.rows)
      (tied_issued t p.next d v p.scheme.flight p.stages i slot free h.tied)
      (foreseen_issued stage p.stages i p.scheme.flight (new_entry t p.next (Some d)) slot free)
      look
      (λ z at b c. work_follows s.code p.next t d v (fate (set p.stages i (Some stage)) t Pending) z comes l at (does z at b c))
  went_held t p ws x free r (jumped rs xs n look does) =
      let h = r.here in
      issue_runs s base t p ws None p.stages n rs xs r
      h.rows
      (tied_more p.scheme.flight (new_entry t p.next None) p.stages h.tied)
      (foreseen_more p.stages p.scheme.flight (new_entry t p.next None))
      look
      (λ z at b c. on {r = record { registers = z.registers; words = z.words; counter = n }} 0 (sym at) (fate_known p.stages t (Done 0) refl) (does z at b c) refl refl tt (end refl))

  front_held : (requested : Bool) (t : ℕ) (p : Pipe) (ws : List ℕ) → has_tag t p.scheme.flight ≡ false → Runs s base p ws → Held s base (front s requested t p ws)
  front_held requested t p ws free r =
      went_held t p ws (front s requested t p ws) free r (front_went s t p ws r.here.tied r.here.roomy requested (sane p.next))

  retiring_held : (requested : Bool) (t : ℕ) (p : Pipe) (ws : List ℕ) (y : Result (Option ℕ) Trap) → y ≡ retire_answer p.scheme → has_tag t (retire_leaves p.scheme).flight ≡ false → Runs s base p ws
      → Held s base (retiring s requested t p ws y)
  unfolding retiring
  retiring_held requested t p ws (Ok None) a free r =
      front_held requested t p ws (subst (λ (m : Meaning). has_tag t m.flight ≡ false) (stays p.scheme (Ok None) a refl) free) r
  retiring_held requested t p ws (Ok (Some c)) a free r = front_held requested t (settled p) ws free (settled_runs s base p ws c a r)
  retiring_held requested t p ws (Err x) a free r = faulted_ends s base p ws x.counter x.fault a r

  pub cycle_held : (requested : Bool) (t : ℕ) (p : Pipe) (ws : List ℕ) → Runs s base p ws → has_tag t (flight_at_admission p) ≡ false → Held s base (cycle s requested t p ws)
  unfolding cycle
  cycle_held requested t p ws r free =
      retiring_held requested t (moved (arrived p)) ws (retire_answer (moved (arrived p)).scheme) refl free (moved_runs s base p ws r)
