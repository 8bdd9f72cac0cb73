-- What the rules after a retirement come to, and why: what the plain machine does with the next instruction, or that
-- something is in flight.
use Rattle.std.proofs.Common.{◌≡◌, ℕ, zero, suc, ◌+◌, ◌-◌, ◌<◌, ◌≤◌, Bool, true, false, cond, ltb, List, [], ◌∷◌, length, get_or, set, Some, None, Ok, Err, Option, Result, refl, ap, ◌∙◌, arith}
use Rattle.std.proofs.lemmas.Bool.{both_ways, lt-ltb, leb-true, cond-true}
use Rattle.isa.specs.declared.fault.Fault.{Fault}
use Rattle.isa.specs.declared.fault.Cause.{Cause}
use Rattle.isa.specs.declared.fault.Cause.TheVariants as cause
use Rattle.isa.specs.declared.unit.ExecUnit.{ExecUnit}
use Rattle.isa.specs.Table.{Instr, halt, store, work, jump}
use Rattle.isa.specs.Plain.{Plain, reads, executed, worked, written}
use Rattle.recovery.specs.declared.AdmitError.TheVariants.{Awaited, Full}
use Rattle.recovery.specs.Meaning.{Entry, awaited, held_up, youngest, full, new_entry, oldest_of}
use Rattle.pickcore.specs.declared.record.Hold.{Hold}
use Rattle.pickcore.specs.declared.record.Hold.TheVariants as hold
use Rattle.pickcore.specs.declared.record.Ending.TheVariants.{Issued, Stored}
use Rattle.pickcore.specs.declared.stages.Stage.{Stage}
use Rattle.pickcore.specs.Cycle.{Setting, Pipe, Turn, beside, stops, holds, drained, writes, putting, admitted, entering, working, jumping, both, looks, dispatch, front}
use Rattle.pickcore.specs.Sound.{Tied}
use Rattle.pickcore.proofs.Registers.{look_settled}
use Rattle.pickcore.proofs.Ways.{appended}
use Rattle.precision.specs.Fit.{Registers, Named}

-- the turn of an issue
abbrev pub issue : ℕ → Pipe → List ℕ → Option ℕ → List (Option Stage) → ℕ → Turn
issue t p ws d stages next = record { ending = Issued p.next; pipe = record { scheme = appended p.scheme (new_entry t p.next d); stages = stages; next = next; count = p.count }; words = ws }

-- what the next instruction does to every plain machine that stands at it, with these data words and such registers
abbrev pub Does : Setting → Pipe → List ℕ → (List ℕ → Type 0) → (Plain → Result Plain Fault) → Type 0
Does s p ws Such f = (z : Plain) → z.counter ≡ p.next → z.words ≡ ws → Such z.registers → executed (s.code z.counter) z ≡ f z

-- the registers are the settled ones; in the registers rs are the words xs
abbrev pub Settled : Pipe → List ℕ → Type 0
Settled p registers = registers ≡ p.scheme.settled

abbrev pub Reading : List ℕ → List ℕ → List ℕ → Type 0
Reading rs xs registers = reads registers rs ≡ xs

pub data Went (s : Setting) (t : ℕ) (p : Pipe) (ws : List ℕ) : Turn → Type 0 where
  -- a request is met
  met : p.scheme.flight ≡ [] → Went s t p ws (beside ws (stops p cause.Request p.next))
  -- the next instruction has a fault
  failed : (f : Fault) → p.scheme.flight ≡ [] → Does s p ws (Settled p) (λ z. Err f) → Went s t p ws (beside ws (stops p (cause.Fault f) p.next))
  -- it is a store, which is written
  wrote : (vs : List ℕ) → p.scheme.flight ≡ [] → Does s p ws (Settled p) (λ z. written z (Ok vs))
      → Went s t p ws (record { ending = Stored p.next; pipe = record { scheme = p.scheme; stages = p.stages; next = p.next + 1; count = p.count + 1 }; words = vs })
  -- it is held back by what is in flight
  kept : (h : Hold) → (p.scheme.flight ≡ [] → ⊥) → Went s t p ws (beside ws (holds p h))
  -- it has a result, and issues
  issued : (u : ExecUnit) (d : ℕ) (rs xs : List ℕ) (r : Result ℕ Fault) → d < 16 → looks s.timing p.scheme rs ≡ Some xs → get_or p.stages (s.delay u - 1) None ≡ None
      → Does s p ws (Reading rs xs) (λ z. worked z d r)
      → Went s t p ws (issue t p ws (Some d) (set p.stages (s.delay u - 1) (Some (record { tag = t; result = r }))) (p.next + 1))
  -- it is a branch, and issues
  jumped : (rs xs : List ℕ) (n : ℕ) → looks s.timing p.scheme rs ≡ Some xs
      → Does s p ws (Reading rs xs) (λ z. Ok (record { registers = z.registers; words = z.words; counter = n }))
      → Went s t p ws (issue t p ws None p.stages n)

no_oldest : (es : List Entry) → oldest_of es ≡ None → es ≡ []
no_oldest [] h = refl
no_oldest (e ∷ es) h = let z : ◌≡◌ {A = ℕ} 0 1 = cc in absurd (omega arith)

both_none : (x : ℕ) (b : Option (List ℕ)) → both (Some x) b ≡ None → b ≡ None
both_none x None h = refl
both_none x (Some ys) h = let z : ◌≡◌ {A = ℕ} 0 1 = cc in absurd (omega arith)

-- with nothing in flight no stage is taken
all_free : (xs : List (Option Stage)) (i : ℕ) → Tied [] xs → get_or xs i None ≡ None
all_free [] i k = refl
all_free (None ∷ xs) zero k = refl
all_free (None ∷ xs) (suc i) k = all_free xs i k
all_free (Some x ∷ xs) i k = let h = k.0 in let z : ◌≡◌ {A = ℕ} 0 1 = cc in absurd (omega arith)

module _ (s : Setting) (t : ℕ) (p : Pipe) (ws : List ℕ) (tied : Tied p.scheme.flight p.stages) (roomy : 1 ≤ p.scheme.capacity) where
  at_next : (i : Instr) (z : Plain) → s.code p.next ≡ i → z.counter ≡ p.next → executed (s.code z.counter) z ≡ executed i z
  at_next i z e at = ap (λ (j : Instr). executed j z) (ap s.code at ∙ e)

  -- each hold is of something in flight

  oldest_busy : (n : ℕ) → oldest_of p.scheme.flight ≡ Some n → p.scheme.flight ≡ [] → ⊥
  oldest_busy n h e = let k = ap oldest_of e in let z : ◌≡◌ {A = ℕ} 0 1 = cc in omega arith

  source_busy : (rs : List ℕ) → Registers rs → looks s.timing p.scheme rs ≡ None → p.scheme.flight ≡ [] → ⊥
  source_busy [] n h e = let z : ◌≡◌ {A = ℕ} 0 1 = cc in omega arith
  source_busy (r ∷ rs) n h e =
      let one = look_settled s.timing p.scheme r e n.0 in
      source_busy rs n.1 (both_none (get_or p.scheme.settled r 0) (looks s.timing p.scheme rs) (rw one at h)) e

  stage_busy : (i : ℕ) (x : Stage) → get_or p.stages i None ≡ Some x → p.scheme.flight ≡ [] → ⊥
  stage_busy i x h e = let k = all_free p.stages i (rw e at tied) in let z : ◌≡◌ {A = ℕ} 0 1 = cc in omega arith

  destination_busy : (d : ℕ) → d < 16 → awaited p.scheme d ≡ true → p.scheme.flight ≡ [] → ⊥
  destination_busy d l h e =
      both_ways (awaited p.scheme d) (ap (λ es. cond (ltb d 16) (held_up (youngest d es)) true) e ∙ cond-true (ltb d 16) false true (lt-ltb d 16 l)) h

  room_busy : full p.scheme ≡ true → p.scheme.flight ≡ [] → ⊥
  room_busy h e = let k = leb-true p.scheme.capacity (length p.scheme.flight) h in omega (arith, ap length e)

  -- the rules, from a stop that waits to an admission

  drained_went : (h : Hold) (c : Cause) → (p.scheme.flight ≡ [] → Went s t p ws (beside ws (stops p c p.next))) → (o : Option ℕ) → oldest_of p.scheme.flight ≡ o
      → Went s t p ws (beside ws (drained p h c o))
  drained_went h c w (Some n) e = kept h (oldest_busy n e)
  drained_went h c w None e = w (no_oldest p.scheme.flight e)

  writes_went : (r : Result (List ℕ) Fault) → p.scheme.flight ≡ [] → Does s p ws (Settled p) (λ z. written z r) → Went s t p ws (writes p ws r)
  writes_went (Ok vs) e d = wrote vs e d
  writes_went (Err f) e d = failed f e d

  putting_went : (rs : List ℕ) (g : List ℕ → List ℕ → Result (List ℕ) Fault) → s.code p.next ≡ store rs g → (o : Option ℕ) → oldest_of p.scheme.flight ≡ o → Went s t p ws (putting p ws rs g o)
  putting_went rs g i (Some n) e = kept hold.Flight (oldest_busy n e)
  putting_went rs g i None e =
      writes_went (g (reads p.scheme.settled rs) ws) (no_oldest p.scheme.flight e)
      (λ z at b a. at_next (store rs g) z i at ∙ (ap (λ xs. written z (g (reads xs rs) z.words)) a ∙ ap (λ xs. written z (g (reads p.scheme.settled rs) xs)) b))

  -- an admission, by its two tests
  admitted_went : (d : Option ℕ) (stages : List (Option Stage)) (next : ℕ) (a f : Bool) → (a ≡ true → p.scheme.flight ≡ [] → ⊥) → full p.scheme ≡ f → Went s t p ws (issue t p ws d stages next)
      → Went s t p ws (beside ws (admitted p (cond a p.scheme (cond f p.scheme (appended p.scheme (new_entry t p.next d)))) stages next (cond a (Err Awaited) (cond f (Err Full) (Ok t)))))
  admitted_went d stages next true f busy e w = kept hold.Destination (busy refl)
  admitted_went d stages next false true busy e w = kept hold.Capacity (room_busy e)
  admitted_went d stages next false false busy e w = w

  working_went : (u : ExecUnit) (d : ℕ) (rs : List ℕ) (g : List ℕ → List ℕ → Result ℕ Fault) → s.code p.next ≡ work u d rs g → d < 16 → Registers rs
      → (o : Option (List ℕ)) → looks s.timing p.scheme rs ≡ o → Went s t p ws (beside ws (working t p ws (s.delay u) d g o))
  working_went u d rs g i l n None e = kept hold.Source (source_busy rs n e)
  working_went u d rs g i l n (Some xs) e = entering_went (get_or p.stages (s.delay u - 1) None) refl
    where
      does : Does s p ws (Reading rs xs) (λ z. worked z d (g xs ws))
      does z at b c = at_next (work u d rs g) z i at ∙ (ap (λ vs. worked z d (g vs z.words)) c ∙ ap (λ vs. worked z d (g xs vs)) b)

      entering_went : (o : Option Stage) → get_or p.stages (s.delay u - 1) None ≡ o → Went s t p ws (beside ws (entering t p (s.delay u) d (g xs ws) o))
      entering_went (Some x) h = kept hold.Stage (stage_busy (s.delay u - 1) x h)
      entering_went None h =
          admitted_went (Some d) (set p.stages (s.delay u - 1) (Some (record { tag = t; result = g xs ws }))) (p.next + 1) (awaited p.scheme d) (full p.scheme)
          (destination_busy d l) refl (issued u d rs xs (g xs ws) l e h does)

  jumping_went : (rs : List ℕ) (g : List ℕ → ℕ → ℕ) → s.code p.next ≡ jump rs g → Registers rs → (o : Option (List ℕ)) → looks s.timing p.scheme rs ≡ o → Went s t p ws (beside ws (jumping t p g o))
  jumping_went rs g i n None e = kept hold.Source (source_busy rs n e)
  jumping_went rs g i n (Some xs) e =
      admitted_went None p.stages (g xs p.next) false (full p.scheme) (λ h. absurd (both_ways false refl h)) refl
      (jumped rs xs (g xs p.next) e does)
    where
      does : Does s p ws (Reading rs xs) (λ z. Ok (record { registers = z.registers; words = z.words; counter = g xs p.next }))
      does z at b c =
          at_next (jump rs g) z i at
          ∙ (ap (λ vs. Ok (record { registers = z.registers; words = z.words; counter = g vs z.counter })) c
          ∙ ap (λ m. Ok (record { registers = z.registers; words = z.words; counter = g xs m })) at)

  dispatch_went : (i : Instr) → s.code p.next ≡ i → Named i → Went s t p ws (dispatch s t p ws i)
  unfolding dispatch
  dispatch_went (halt f) e n =
      drained_went hold.Flight (cause.Fault f) (λ none. failed f none (λ z at b a. at_next (halt f) z e at)) (oldest_of p.scheme.flight) refl
  dispatch_went (store rs g) e n = putting_went rs g e (oldest_of p.scheme.flight) refl
  dispatch_went (work u d rs g) e n = working_went u d rs g e n.0 n.1 (looks s.timing p.scheme rs) refl
  dispatch_went (jump rs g) e n = jumping_went rs g e n (looks s.timing p.scheme rs) refl

  pub front_went : (requested : Bool) → Named (s.code p.next) → Went s t p ws (front s requested t p ws)
  unfolding front
  front_went true n = drained_went hold.Request cause.Request met (oldest_of p.scheme.flight) refl
  front_went false n = dispatch_went (s.code p.next) refl n
