-- What the rules after a retirement can come to: five ways.
use Rattle.std.proofs.Common.{◌≡◌, ℕ, ◌+◌, ◌-◌, Bool, true, false, cond, List, [], ◌∷◌, ◌++◌, get_or, set, Some, None, Ok, Err, Option, Result, refl, arith}
use Rattle.isa.specs.declared.fault.Fault.{Fault}
use Rattle.isa.specs.declared.fault.Cause.{Cause}
use Rattle.isa.specs.declared.fault.Cause.TheVariants as cause
use Rattle.isa.specs.declared.unit.ExecUnit.{ExecUnit}
use Rattle.isa.specs.Table.{Instr, halt, store, work, jump}
use Rattle.isa.specs.Plain.{reads}
use Rattle.recovery.specs.declared.AdmitError.TheVariants.{Awaited, Full}
use Rattle.recovery.specs.Meaning.{Meaning, Entry, awaited_destination, full, new_entry, with_flight, oldest_of}
use Rattle.pickcore.specs.declared.record.Hold.{Hold}
use Rattle.pickcore.specs.declared.record.Hold.TheVariants as hold
use Rattle.pickcore.specs.declared.record.Ending.TheVariants.{Issued, Stored}
use Rattle.pickcore.specs.declared.stages.Stage.{Stage}
use Rattle.pickcore.specs.Cycle.{Setting, Pipe, Turn, beside, stops, holds, drained, writes, putting, admitted, entering, working, jumping, looks, dispatch, front}

-- an entry appended to the flight
abbrev pub appended : Meaning → Entry → Meaning
appended m e = with_flight m (m.flight ++ (e ∷ []))

pub data Way (s : Setting) (t : ℕ) (p : Pipe) (ws : List ℕ) (i : Instr) : Turn → Type 0 where
  -- the core stops at the next counter
  stopped : (c : Cause) → p.scheme.flight ≡ [] → Way s t p ws i (beside ws (stops p c p.next))
  -- the next instruction is held
  held : (h : Hold) → Way s t p ws i (beside ws (holds p h))
  -- a store is written
  wrote : {rs : List ℕ} {f : List ℕ → List ℕ → Result (List ℕ) Fault} (vs : List ℕ) → i ≡ store rs f → p.scheme.flight ≡ []
      → Way s t p ws i (record { ending = Stored p.next; pipe = record { scheme = p.scheme; stages = p.stages; next = p.next + 1; count = p.count + 1 }; words = vs })
  -- an instruction with a result issues
  issued : {rs : List ℕ} {f : List ℕ → List ℕ → Result ℕ Fault} {u : ExecUnit} (d : ℕ) (r : Result ℕ Fault) → i ≡ work u d rs f → get_or p.stages (s.delay u - 1) None ≡ None
      → Way s t p ws i (record { ending = Issued p.next; pipe = record { scheme = appended p.scheme (new_entry t p.next (Some d)); stages = set p.stages (s.delay u - 1) (Some (record { tag = t; result = r })); next = p.next + 1; count = p.count }; words = ws })
  -- a branch issues
  jumped : {rs : List ℕ} {f : List ℕ → ℕ → ℕ} (xs : List ℕ) → i ≡ jump rs f
      → Way s t p ws i (record { ending = Issued p.next; pipe = record { scheme = appended p.scheme (new_entry t p.next None); stages = p.stages; next = f xs p.next; count = p.count }; words = ws })

no_oldest : (es : List Entry) → oldest_of es ≡ None → es ≡ []
no_oldest [] h = refl
no_oldest (e ∷ es) h = let z : ◌≡◌ {A = ℕ} 0 1 = cc in absurd (omega arith)

module _ (s : Setting) (t : ℕ) (p : Pipe) (ws : List ℕ) (i : Instr) where
  drained_way : (h : Hold) (c : Cause) (o : Option ℕ) → oldest_of p.scheme.flight ≡ o → Way s t p ws i (beside ws (drained p h c o))
  drained_way h c (Some x) e = held h
  drained_way h c None e = stopped c (no_oldest p.scheme.flight e)

  putting_way : {rs : List ℕ} {f : List ℕ → List ℕ → Result (List ℕ) Fault} → i ≡ store rs f → (o : Option ℕ) → oldest_of p.scheme.flight ≡ o → Way s t p ws i (putting p ws rs f o)
  putting_way {rs} {f} e (Some x) h = held hold.Flight
  putting_way {rs} {f} e None h = written (f (reads p.scheme.settled rs) ws)
    where
      written : (r : Result (List ℕ) Fault) → Way s t p ws i (writes p ws r)
      written (Ok vs) = wrote vs e (no_oldest p.scheme.flight h)
      written (Err x) = stopped (cause.Fault x) (no_oldest p.scheme.flight h)

  -- an admission, by its two tests
  admitted_way : (d : Option ℕ) (stages : List (Option Stage)) (next : ℕ) (a f : Bool)
      → Way s t p ws i (record { ending = Issued p.next; pipe = record { scheme = appended p.scheme (new_entry t p.next d); stages = stages; next = next; count = p.count }; words = ws })
      → Way s t p ws i (beside ws (admitted p (cond a p.scheme (cond f p.scheme (appended p.scheme (new_entry t p.next d)))) stages next (cond a (Err Awaited) (cond f (Err Full) (Ok t)))))
  admitted_way d stages next true f w = held hold.Destination
  admitted_way d stages next false true w = held hold.Capacity
  admitted_way d stages next false false w = w

  entering_way : {u : ExecUnit} {d : ℕ} {rs : List ℕ} {f : List ℕ → List ℕ → Result ℕ Fault} → i ≡ work u d rs f → (r : Result ℕ Fault) (o : Option Stage) → get_or p.stages (s.delay u - 1) None ≡ o
      → Way s t p ws i (beside ws (entering t p (s.delay u) d r o))
  entering_way e r (Some x) h = held hold.Stage
  entering_way {u} {d} e r None h =
      admitted_way (Some d) (set p.stages (s.delay u - 1) (Some (record { tag = t; result = r }))) (p.next + 1) (awaited_destination p.scheme (Some d)) (full p.scheme) (issued d r e h)

  working_way : {u : ExecUnit} {d : ℕ} {rs : List ℕ} {f : List ℕ → List ℕ → Result ℕ Fault} → i ≡ work u d rs f → (o : Option (List ℕ)) → Way s t p ws i (beside ws (working t p ws (s.delay u) d f o))
  working_way e None = held hold.Source
  working_way {u} {f = f} e (Some xs) = entering_way e (f xs ws) (get_or p.stages (s.delay u - 1) None) refl

  jumping_way : {rs : List ℕ} {f : List ℕ → ℕ → ℕ} → i ≡ jump rs f → (o : Option (List ℕ)) → Way s t p ws i (beside ws (jumping t p f o))
  jumping_way e None = held hold.Source
  jumping_way {f = f} e (Some xs) = admitted_way None p.stages (f xs p.next) false (full p.scheme) (jumped xs e)

pub dispatch_way : (s : Setting) (t : ℕ) (p : Pipe) (ws : List ℕ) (i : Instr) → Way s t p ws i (dispatch s t p ws i)
unfolding dispatch
dispatch_way s t p ws (halt f) = drained_way s t p ws (halt f) hold.Flight (cause.Fault f) (oldest_of p.scheme.flight) refl
dispatch_way s t p ws (store rs f) = putting_way s t p ws (store rs f) refl (oldest_of p.scheme.flight) refl
dispatch_way s t p ws (work u d rs f) = working_way s t p ws (work u d rs f) refl (looks s.timing p.scheme rs)
dispatch_way s t p ws (jump rs f) = jumping_way s t p ws (jump rs f) refl (looks s.timing p.scheme rs)

pub front_way : (s : Setting) (b : Bool) (t : ℕ) (p : Pipe) (ws : List ℕ) → Way s t p ws (s.code p.next) (front s b t p ws)
unfolding front
front_way s true t p ws = drained_way s t p ws (s.code p.next) hold.Request cause.Request (oldest_of p.scheme.flight) refl
front_way s false t p ws = dispatch_way s t p ws (s.code p.next)
