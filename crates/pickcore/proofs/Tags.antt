-- A tag that no entry in flight has; and a cycle that admits nothing does not depend on the tag.
use Rattle.std.proofs.Common.{◌≡◌, ℕ, ◌+◌, ◌<◌, max, Bool, true, false, cond, ◌||◌, List, [], ◌∷◌, ◌++◌, Some, None, Option, Result, sym, refl, ap, ◌∙◌, ⊎_elim, arith, Ok, Err}
use Rattle.std.proofs.lemmas.Bool.{ne_eqb, cases_Bool}
use Rattle.isa.specs.declared.fault.Fault.{Fault}
use Rattle.isa.specs.Table.{Instr, halt, store, work, jump}
use Rattle.recovery.specs.declared.AdmitError.TheVariants.{Awaited, Full}
use Rattle.recovery.specs.declared.Trap.{Trap}
use Rattle.recovery.specs.Meaning.{Entry, has_tag, awaited_destination, full, new_entry, with_flight, retire_answer}
use Rattle.pickcore.specs.declared.stages.Stage.{Stage}
use Rattle.pickcore.specs.Cycle.{Setting, Pipe, Move, Turn, beside, arrived, moved, settled, entering, working, jumping, admitted, admits, looks, dispatch, front, retiring, cycle, flight_at_admission, issues, Chosen}

abbrev top : List Entry → ℕ
top [] = 0
top (e ∷ es) = max e.tag (top es)

above : (t : ℕ) (es : List Entry) → top es < t → has_tag t es ≡ false
above t [] h = refl
above t (e ∷ es) h =
    let ne : e.tag ≡ t → ⊥ = λ q. omega arith in
    ap (λ b. b || has_tag t es) (ne_eqb e.tag t ne) ∙ above t es (omega arith)

pub fresh_tag : (es : List Entry) → (t : ℕ) × (has_tag t es ≡ false)
fresh_tag es = (top es + 1, above (top es + 1) es (omega arith))

-- an admission that is refused is refused under any tag
module _ (p : Pipe) (d : Option ℕ) (next : ℕ) where
  abbrev admits_by : ℕ → List (Option Stage) → Bool → Bool → Move
  admits_by t stages a f =
      admitted p (cond a p.scheme (cond f p.scheme (with_flight p.scheme (p.scheme.flight ++ (new_entry t p.next d ∷ []))))) stages next (cond a (Err Awaited) (cond f (Err Full) (Ok t)))

  admits_any : (t u : ℕ) (ss ts : List (Option Stage)) (a f : Bool) → issues (admits_by t ss a f).ending ≡ false → admits_by t ss a f ≡ admits_by u ts a f
  admits_any t u ss ts true f h = refl
  admits_any t u ss ts false true h = refl
  admits_any t u ss ts false false h = let z : ◌≡◌ {A = ℕ} 0 1 = cc in absurd (omega arith)

  pub admits_same : (t u : ℕ) (ss ts : List (Option Stage)) → issues (admits t p d ss next).ending ≡ false → admits t p d ss next ≡ admits u p d ts next
  admits_same t u ss ts h = admits_any t u ss ts (awaited_destination p.scheme d) (full p.scheme) h

entering_same : (p : Pipe) (delay d : ℕ) (r : Result ℕ Fault) (o : Option Stage) (t u : ℕ) → issues (entering t p delay d r o).ending ≡ false → entering t p delay d r o ≡ entering u p delay d r o
entering_same p delay d r (Some x) t u h = refl
entering_same p delay d r None t u h = admits_same p (Some d) (p.next + 1) t u _ _ h

working_same : (p : Pipe) (ws : List ℕ) (delay d : ℕ) (f : List ℕ → List ℕ → Result ℕ Fault) (o : Option (List ℕ)) (t u : ℕ) → issues (working t p ws delay d f o).ending ≡ false → working t p ws delay d f o ≡ working u p ws delay d f o
working_same p ws delay d f None t u h = refl
working_same p ws delay d f (Some xs) t u h = entering_same p delay d (f xs ws) _ t u h

jumping_same : (p : Pipe) (f : List ℕ → ℕ → ℕ) (o : Option (List ℕ)) (t u : ℕ) → issues (jumping t p f o).ending ≡ false → jumping t p f o ≡ jumping u p f o
jumping_same p f None t u h = refl
jumping_same p f (Some xs) t u h = admits_same p None (f xs p.next) t u _ _ h

dispatch_same : (s : Setting) (p : Pipe) (ws : List ℕ) (i : Instr) (t u : ℕ) → issues (dispatch s t p ws i).ending ≡ false → dispatch s t p ws i ≡ dispatch s u p ws i
unfolding dispatch
dispatch_same s p ws (halt f) t u h = refl
dispatch_same s p ws (store rs f) t u h = refl
dispatch_same s p ws (work e d rs f) t u h = ap (beside ws) (working_same p ws (s.delay e) d f (looks s.timing p.scheme rs) t u h)
dispatch_same s p ws (jump rs f) t u h = ap (beside ws) (jumping_same p f (looks s.timing p.scheme rs) t u h)

front_same : (s : Setting) (b : Bool) (p : Pipe) (ws : List ℕ) (t u : ℕ) → issues (front s b t p ws).ending ≡ false → front s b t p ws ≡ front s b u p ws
unfolding front
front_same s true p ws t u h = refl
front_same s false p ws t u h = dispatch_same s p ws (s.code p.next) t u h

retiring_same : (s : Setting) (b : Bool) (p : Pipe) (ws : List ℕ) (r : Result (Option ℕ) Trap) (t u : ℕ) → issues (retiring s b t p ws r).ending ≡ false → retiring s b t p ws r ≡ retiring s b u p ws r
unfolding retiring
retiring_same s b p ws (Ok None) t u h = front_same s b p ws t u h
retiring_same s b p ws (Ok (Some c)) t u h = front_same s b (settled p) ws t u h
retiring_same s b p ws (Err x) t u h = refl

cycle_same : (s : Setting) (b : Bool) (p : Pipe) (ws : List ℕ) (t u : ℕ) → issues (cycle s b t p ws).ending ≡ false → cycle s b t p ws ≡ cycle s b u p ws
unfolding cycle
cycle_same s b p ws t u h = retiring_same s b (moved (arrived p)) ws (retire_answer (moved (arrived p)).scheme) t u h

-- so that every cycle is one by a free tag
pub freely : (s : Setting) (b : Bool) (p : Pipe) (ws : List ℕ) (x : Turn) → Chosen (λ t. cycle s b t p ws) (flight_at_admission p) x.ending x
    → (t : ℕ) × (has_tag t (flight_at_admission p) ≡ false) × (x ≡ cycle s b t p ws)
freely s b p ws x c =
    ⊎_elim
    (λ yes. (c.tag, (c.free yes).1, c.is))
    (λ none. let f = fresh_tag (flight_at_admission p) in
    (f.0, f.1, c.is ∙ cycle_same s b p ws c.tag f.0 (sym (ap (λ (y : Turn). issues y.ending) c.is) ∙ none)))
    (cases_Bool (issues x.ending))
