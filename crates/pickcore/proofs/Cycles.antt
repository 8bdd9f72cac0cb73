-- A cycle from its parts.
use Rattle.std.proofs.Common.{◌≡◌, ℕ, ◌+◌, Bool, true, false, List, [], ◌∷◌, ◌++◌, drop, Some, None, Option, sym, refl, ap, ◌∙◌, subst, arith, Result, Ok, Err}
use Rattle.isa.specs.declared.fault.Fault.{Fault}
use Rattle.isa.specs.declared.fault.Cause.TheVariants as cause
use Rattle.recovery.specs.declared.Status.{Status}
use Rattle.recovery.specs.declared.Status.TheVariants.{Pending, Done, Faulted}
use Rattle.recovery.specs.declared.Trap.{Trap}
use Rattle.recovery.specs.Meaning.{Meaning, Entry, oldest_answer, retire_answer, retire_flight, retire_status, retire_leaves, settle_oldest, settle}
use Rattle.pickcore.specs.declared.record.Hold.TheVariants as hold
use Rattle.pickcore.specs.declared.record.Ending.{Ending}
use Rattle.pickcore.specs.declared.record.Ending.TheVariants.{Stopped}
use Rattle.pickcore.specs.declared.stages.Stage.{Stage}
use Rattle.pickcore.specs.Cycle.{Setting, Pipe, Move, Turn, beside, arrived, moved, emptied, drains, dispatch, front, retiring, cycle, retires, counter_of, flight_at_admission, issues, Chosen}
use Rattle.pickcore.proofs.Issue.{unchosen, drained_none}

-- a retirement that settles nothing leaves the scheme as it is

settles_none : (m : Meaning) (e : Entry) (es : List Entry) (y : Status) (r : Result (Option ℕ) Trap) → r ≡ retire_status e.counter y → counter_of r ≡ None → settle m es e.destination y ≡ m
settles_none m e es Pending r h k = refl
settles_none m e es (Done w) r h k = let z : ◌≡◌ {A = ℕ} 0 1 = cc in absurd (omega arith)
settles_none m e es (Faulted f) r h k = refl

retires_none : (m : Meaning) (es : List Entry) (r : Result (Option ℕ) Trap) → r ≡ retire_flight es → counter_of r ≡ None → settle_oldest m es ≡ m
retires_none m [] r h k = refl
retires_none m (e ∷ es) r h k = settles_none m e es e.status r h k

pub stays : (m : Meaning) (r : Result (Option ℕ) Trap) → r ≡ retire_answer m → counter_of r ≡ None → retire_leaves m ≡ m
stays m r h k = retires_none m m.flight r h k

-- the pipe once the oldest entry is retired, with a new count, from what each call leaves
after_retire : (f : ℕ → ℕ) (p q : Pipe) (m : Meaning) (stages : List (Option Stage)) → q ≡ arrived p → stages ≡ drop 1 q.stages ++ (None ∷ []) → m ≡ retire_leaves q.scheme
    → ◌≡◌ {A = Pipe} (record { scheme = m; stages = stages; next = q.next; count = f q.count })
    (record { scheme = retire_leaves (arrived p).scheme; stages = (moved (arrived p)).stages; next = p.next; count = f p.count })
after_retire f p q m stages e s r =
    ap (λ x. record { scheme = x; stages = stages; next = q.next; count = f q.count }) r
    ∙ (ap (λ x. record { scheme = retire_leaves q.scheme; stages = x; next = q.next; count = f q.count }) s
    ∙ ap (λ (x : Pipe). record { scheme = retire_leaves x.scheme; stages = drop 1 x.stages ++ (None ∷ []); next = x.next; count = f x.count }) e)

module _ (s : Setting) (requested : Bool) (p : Pipe) (ws : List ℕ) where
  pub front_requested : (e : Ending) (q : Pipe) → requested ≡ true → record { ending = e; pipe = q } ≡ drains p hold.Request cause.Request
      → Chosen (λ t. front s requested t p ws) p.scheme.flight e (record { ending = e; pipe = q; words = ws })
  unfolding front
  front_requested e q h is =
      unchosen (λ t. front s requested t p ws) p.scheme.flight e (record { ending = e; pipe = q; words = ws })
      (ap (λ (m : Move). issues m.ending) is ∙ drained_none p hold.Request cause.Request (oldest_answer p.scheme))
      (ap (beside ws) is ∙ ap (λ b. front s b 0 p ws) (sym h))

  pub front_issues : (e : Ending) (x : Turn) → requested ≡ false → Chosen (λ t. dispatch s t p ws (s.code p.next)) p.scheme.flight e x
      → Chosen (λ t. front s requested t p ws) p.scheme.flight e x
  unfolding front
  front_issues e x h c = record { tag = c.tag; free = c.free; is = c.is ∙ ap (λ b. front s b c.tag p ws) (sym h) }

  -- what a cycle's first calls leave: the pipe q after the delivery, the stages after the shift, the scheme m after the retirement
  module _ (q : Pipe) (m : Meaning) (stages : List (Option Stage)) (e : q ≡ arrived p) (sh : stages ≡ drop 1 q.stages ++ (None ∷ [])) (lv : m ≡ retire_leaves q.scheme) where
    answered : (r : Result (Option ℕ) Trap) → r ≡ retire_answer q.scheme → r ≡ retire_answer (moved (arrived p)).scheme
    answered r a = a ∙ ap (λ (x : Pipe). retire_answer x.scheme) e

    -- with nothing settled, the scheme is as the delivery left it
    unsettled : (r : Result (Option ℕ) Trap) → r ≡ retire_answer q.scheme → counter_of r ≡ None → record { scheme = m; stages = stages; next = q.next; count = q.count } ≡ moved (arrived p)
    unsettled r a none =
        after_retire (λ n. n) p q m stages e sh lv
        ∙ ap (λ x. record { scheme = x; stages = (moved (arrived p)).stages; next = p.next; count = p.count }) (stays (arrived p).scheme r (answered r a) none)

    at_admission : m.flight ≡ flight_at_admission p
    at_admission = ap (λ x. x.flight) lv ∙ ap (λ (x : Pipe). (retire_leaves x.scheme).flight) e

    pub cycle_nothing : (y : Ending) (x : Turn) → Ok None ≡ retire_answer q.scheme
        → Chosen (λ t. front s requested t (record { scheme = m; stages = stages; next = q.next; count = q.count }) ws) m.flight y x
        → record { retired : None ≡ retires p; turn : Chosen (λ t. cycle s requested t p ws) (flight_at_admission p) y x }
    unfolding cycle retiring
    cycle_nothing y x a c = record {
      retired = ap counter_of (answered (Ok None) a);
      turn = subst (λ es. Chosen (λ t. cycle s requested t p ws) es y x) at_admission
          (record { tag = c.tag; free = c.free; is = c.is ∙ (ap (λ z. front s requested c.tag z ws) (unsettled (Ok None) a refl) ∙ ap (retiring s requested c.tag (moved (arrived p)) ws) (answered (Ok None) a)) });
    }

    pub cycle_settled : (n : ℕ) (y : Ending) (x : Turn) → Ok (Some n) ≡ retire_answer q.scheme
        → Chosen (λ t. front s requested t (record { scheme = m; stages = stages; next = q.next; count = q.count + 1 }) ws) m.flight y x
        → record { retired : Some n ≡ retires p; turn : Chosen (λ t. cycle s requested t p ws) (flight_at_admission p) y x }
    unfolding cycle retiring
    cycle_settled n y x a c = record {
      retired = ap counter_of (answered (Ok (Some n)) a);
      turn = subst (λ es. Chosen (λ t. cycle s requested t p ws) es y x) at_admission
          (record { tag = c.tag; free = c.free; is = c.is ∙ (ap (λ z. front s requested c.tag z ws) (after_retire (λ k. k + 1) p q m stages e sh lv) ∙ ap (retiring s requested c.tag (moved (arrived p)) ws) (answered (Ok (Some n)) a)) });
    }

    pub cycle_faulted : (n : ℕ) (f : Fault) (o : Pipe) → Err (record { counter = n; fault = f }) ≡ retire_answer q.scheme
        → o ≡ emptied (record { scheme = m; stages = stages; next = q.next; count = q.count }) n
        → record { retired : None ≡ retires p; turn : Chosen (λ t. cycle s requested t p ws) (flight_at_admission p) (Stopped (cause.Fault f)) (record { ending = Stopped (cause.Fault f); pipe = o; words = ws }) }
    unfolding cycle retiring
    cycle_faulted n f o a k = record {
      retired = ap counter_of (answered (Err (record { counter = n; fault = f })) a);
      turn = unchosen (λ t. cycle s requested t p ws) (flight_at_admission p) (Stopped (cause.Fault f)) (record { ending = Stopped (cause.Fault f); pipe = o; words = ws }) refl
          (ap (λ z. record { ending = Stopped (cause.Fault f); pipe = z; words = ws }) (k ∙ ap (λ z. emptied z n) (unsettled (Err (record { counter = n; fault = f })) a refl)) ∙ ap (retiring s requested 0 (moved (arrived p)) ws) (answered (Err (record { counter = n; fault = f })) a));
    }
