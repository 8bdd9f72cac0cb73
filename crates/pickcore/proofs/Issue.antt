-- The instruction at a counter, and what each way of issuing it comes to.
use Rattle.std.proofs.Common.{◌≡◌, ℕ, false, List, Some, None, Ok, Err, Option, Result, sym, refl, ap, ◌∙◌, arith}
use Rattle.isa.specs.declared.fault.Fault.{Fault}
use Rattle.isa.specs.declared.fault.Cause.{Cause}
use Rattle.isa.specs.declared.fault.Cause.TheVariants as cause
use Rattle.isa.specs.declared.unit.ExecUnit.{ExecUnit}
use Rattle.isa.specs.declared.words.Kind.{Kind}
use Rattle.isa.specs.declared.words.Kind.TheVariants.{Stop, Set, Add, Subtract, ExclusiveOr, Multiply, Divide, CheckedAdd, Load, Store, BranchEqual, BranchUnequal}
use Rattle.isa.specs.Table.{Instr, halt, store, work, jump, row, unit_of, sources_of, computes, target}
use Rattle.isa.specs.Plain.{reads}
use Rattle.recovery.specs.Meaning.{Entry, oldest_answer}
use Rattle.pickcore.specs.declared.record.Hold.{Hold}
use Rattle.pickcore.specs.declared.record.Hold.TheVariants as hold
use Rattle.pickcore.specs.declared.record.Ending.{Ending}
use Rattle.pickcore.specs.Cycle.{Setting, Pipe, Move, Turn, beside, drained, drains, writes, putting, working, jumping, looks, dispatch, issues, Chosen}

pub row_work : (k : Kind) (u : ExecUnit) (d a b n : ℕ) → Some u ≡ unit_of k → row k d a b n ≡ work u d (sources_of k a b) (computes k n)
row_work Stop u d a b n h = let z : ◌≡◌ {A = ℕ} 0 1 = cc in absurd (omega arith)
row_work Set u d a b n h = cc
row_work Add u d a b n h = cc
row_work Subtract u d a b n h = cc
row_work ExclusiveOr u d a b n h = cc
row_work Multiply u d a b n h = cc
row_work Divide u d a b n h = cc
row_work CheckedAdd u d a b n h = cc
row_work Load u d a b n h = cc
row_work Store u d a b n h = let z : ◌≡◌ {A = ℕ} 0 1 = cc in absurd (omega arith)
row_work BranchEqual u d a b n h = let z : ◌≡◌ {A = ℕ} 0 1 = cc in absurd (omega arith)
row_work BranchUnequal u d a b n h = let z : ◌≡◌ {A = ℕ} 0 1 = cc in absurd (omega arith)

pub row_jump : (k : Kind) (d a b n : ℕ) → None ≡ unit_of k → (k ≡ Stop → ⊥) → (k ≡ Store → ⊥) → row k d a b n ≡ jump (sources_of k a b) (target k n)
row_jump Stop d a b n h s t = absurd (s refl)
row_jump Set d a b n h s t = let z : ◌≡◌ {A = ℕ} 0 1 = cc in absurd (omega arith)
row_jump Add d a b n h s t = let z : ◌≡◌ {A = ℕ} 0 1 = cc in absurd (omega arith)
row_jump Subtract d a b n h s t = let z : ◌≡◌ {A = ℕ} 0 1 = cc in absurd (omega arith)
row_jump ExclusiveOr d a b n h s t = let z : ◌≡◌ {A = ℕ} 0 1 = cc in absurd (omega arith)
row_jump Multiply d a b n h s t = let z : ◌≡◌ {A = ℕ} 0 1 = cc in absurd (omega arith)
row_jump Divide d a b n h s t = let z : ◌≡◌ {A = ℕ} 0 1 = cc in absurd (omega arith)
row_jump CheckedAdd d a b n h s t = let z : ◌≡◌ {A = ℕ} 0 1 = cc in absurd (omega arith)
row_jump Load d a b n h s t = let z : ◌≡◌ {A = ℕ} 0 1 = cc in absurd (omega arith)
row_jump Store d a b n h s t = absurd (t refl)
row_jump BranchEqual d a b n h s t = refl
row_jump BranchUnequal d a b n h s t = refl

-- no drain and no store admits an entry
pub drained_none : (p : Pipe) (h : Hold) (c : Cause) (o : Option ℕ) → issues (drained p h c o).ending ≡ false
drained_none p h c (Some x) = refl
drained_none p h c None = refl

writes_none : (p : Pipe) (ws : List ℕ) (r : Result (List ℕ) Fault) → issues (writes p ws r).ending ≡ false
writes_none p ws (Ok vs) = refl
writes_none p ws (Err f) = refl

putting_none : (p : Pipe) (ws rs : List ℕ) (f : List ℕ → List ℕ → Result (List ℕ) Fault) (o : Option ℕ) → issues (putting p ws rs f o).ending ≡ false
putting_none p ws rs f (Some x) = refl
putting_none p ws rs f None = writes_none p ws (f (reads p.scheme.settled rs) ws)

-- what does not admit an entry has any tag
pub unchosen : {A : Type 0} (f : ℕ → A) (flight : List Entry) (e : Ending) (x : A) → issues e ≡ false → x ≡ f 0 → Chosen f flight e x
unchosen f flight e x none is = record { tag = 0; free = λ some. let z : ◌≡◌ {A = ℕ} 0 1 = cc in absurd (omega arith); is = is }

module _ (s : Setting) (p : Pipe) (ws : List ℕ) (i : Instr) where
  pub halt_chosen : (f : Fault) (e : Ending) (q : Pipe) → i ≡ halt f → record { ending = e; pipe = q } ≡ drains p hold.Flight (cause.Fault f)
      → Chosen (λ t. dispatch s t p ws i) p.scheme.flight e (record { ending = e; pipe = q; words = ws })
  unfolding dispatch
  halt_chosen f e q h is =
      unchosen (λ t. dispatch s t p ws i) p.scheme.flight e (record { ending = e; pipe = q; words = ws })
      (ap (λ (m : Move). issues m.ending) is ∙ drained_none p hold.Flight (cause.Fault f) (oldest_answer p.scheme))
      (ap (beside ws) is ∙ ap (dispatch s 0 p ws) (sym h))

  pub store_chosen : (rs : List ℕ) (f : List ℕ → List ℕ → Result (List ℕ) Fault) (e : Ending) (q : Pipe) (vs : List ℕ) → i ≡ store rs f
      → record { ending = e; pipe = q; words = vs } ≡ putting p ws rs f (oldest_answer p.scheme)
      → Chosen (λ t. dispatch s t p ws i) p.scheme.flight e (record { ending = e; pipe = q; words = vs })
  unfolding dispatch
  store_chosen rs f e q vs h is =
      unchosen (λ t. dispatch s t p ws i) p.scheme.flight e (record { ending = e; pipe = q; words = vs })
      (ap (λ (m : Turn). issues m.ending) is ∙ putting_none p ws rs f (oldest_answer p.scheme))
      (is ∙ ap (dispatch s 0 p ws) (sym h))

  pub work_chosen : (u : ExecUnit) (d : ℕ) (rs : List ℕ) (f : List ℕ → List ℕ → Result ℕ Fault) (e : Ending) (q : Pipe) (delay : ℕ) → i ≡ work u d rs f → delay ≡ s.delay u
      → Chosen (λ t. working t p ws delay d f (looks s.timing p.scheme rs)) p.scheme.flight e (record { ending = e; pipe = q })
      → Chosen (λ t. dispatch s t p ws i) p.scheme.flight e (record { ending = e; pipe = q; words = ws })
  unfolding dispatch
  work_chosen u d rs f e q delay h k c = record {
    tag = c.tag;
    free = c.free;
    is = ap (beside ws) (c.is ∙ ap (λ x. working c.tag p ws x d f (looks s.timing p.scheme rs)) k) ∙ ap (dispatch s c.tag p ws) (sym h);
  }

  pub jump_chosen : (rs : List ℕ) (f : List ℕ → ℕ → ℕ) (e : Ending) (q : Pipe) → i ≡ jump rs f
      → Chosen (λ t. jumping t p f (looks s.timing p.scheme rs)) p.scheme.flight e (record { ending = e; pipe = q })
      → Chosen (λ t. dispatch s t p ws i) p.scheme.flight e (record { ending = e; pipe = q; words = ws })
  unfolding dispatch
  jump_chosen rs f e q h c = record { tag = c.tag; free = c.free; is = ap (beside ws) c.is ∙ ap (dispatch s c.tag p ws) (sym h) }
