-- A job on the core: loaded, resumed at 0, and run.
use Rattle.std.proofs.Common.{◌≡◌, ℕ, ◌-◌, cond, not, ◌&&◌, eqb, List, ◌++◌, length, take, Some, None, Ok, Err, Option, Result, sym, refl, ap, ◌∙◌, subst, arith}
use lib.Seq.{take-length}
use Rattle.std.proofs.lemmas.List.{take-append-le}
use Rattle.std.proofs.lemmas.Bool.{eq-eqb}
use Rattle.isa.specs.declared.refusal.Refusal.{Refusal}
use Rattle.isa.specs.declared.refusal.Refusal.TheVariants as refusal
use Rattle.recovery.specs.declared.Timing.{Timing}
use Rattle.pickcore.specs.declared.record.CycleRecord.{CycleRecord}
use Rattle.pickcore.specs.Calls.{Machine, accepted, unless, unloaded, loaded, load_refusal, load_leaves, resume_leaves, step_refusal, Ran, Runs, RunsBy, report_answer}
use Rattle.jobfile.specs.Jobs.{Order}
use Rattle.jobfile.specs.Lines.{declined_line}
use Rattle.jobrun.specs.Runs.{refused, started, PrintsBy, cycle_lines, last_line}

-- an order with other lists
abbrev pub with_lists : Order → List ℕ → List ℕ → Order
with_lists o ps ws = record { scheme = o.scheme; delays = o.delays; capacity = o.capacity; program = ps; words = ws; cycles = o.cycles }

pub same_lists : (o : Order) (ps ws : List ℕ) → ps ≡ o.program → ws ≡ o.words → with_lists o ps ws ≡ o
same_lists o ps ws p w = ap (λ xs. with_lists o xs ws) p ∙ ap (with_lists o o.program) w

module _ (o : Order) where
  taken : Ok tt ≡ accepted (refused o) → refused o ≡ None
  taken h = go (refused o) h
    where
      go : (r : Option Refusal) → Ok tt ≡ accepted r → r ≡ None
      go None e = refl
      go (Some x) e = let z : ◌≡◌ {A = ℕ} 0 1 = cc in absurd (omega arith)

  pub turned_down : (x : Refusal) → Err x ≡ accepted (refused o) → refused o ≡ Some x
  turned_down x h = go (refused o) h
    where
      go : (r : Option Refusal) → Err x ≡ accepted r → r ≡ Some x
      go None e = let z : ◌≡◌ {A = ℕ} 0 1 = cc in absurd (omega arith)
      go (Some y) e = let q : x ≡ y = cc in ap Some (sym q)

  -- the core after new, load and resume
  module _ (m n p : Machine) (fresh : m ≡ unloaded) (answer : Ok tt ≡ accepted (load_refusal m o.delays o.capacity (length o.program) (length o.words)))
      (leaves : n ≡ load_leaves m o.delays o.capacity (length o.program) (length o.words)) (goes : p ≡ resume_leaves n 0) where
    pub accepted_job : refused o ≡ None
    accepted_job = taken (answer ∙ ap (λ x. accepted (load_refusal x o.delays o.capacity (length o.program) (length o.words))) fresh)

    pub is_started : p ≡ started o
    is_started =
        goes
        ∙ ap (λ x. resume_leaves x 0) (leaves ∙ (ap (λ x. load_leaves x o.delays o.capacity (length o.program) (length o.words)) fresh
        ∙ ap (λ r. unless r (loaded o.delays o.capacity (length o.program) (length o.words)) unloaded) accepted_job))

    steps_open : step_refusal p (length o.program) (length o.words) ≡ None
    steps_open =
        ap (λ x. step_refusal x (length o.program) (length o.words)) is_started
        ∙ (ap (λ b. cond (not (b && eqb (length o.words) (length o.words))) (Some refusal.Length) None) (eq-eqb (length o.program) (length o.program) refl)
        ∙ ap (λ b. cond (not b) (Some refusal.Length) None) (eq-eqb (length o.words) (length o.words) refl))

    module _ (k : Timing) (before after : List CycleRecord) (q : Machine) (vs : List ℕ) where
      ran_by : (r : Result ℕ Refusal) → Runs k o.program p o.words before r after q vs → (c : ℕ) × (r ≡ Ok c) × Ran k o.program (started o) o.words before c after q vs
      ran_by r h =
          let y = subst (λ x. RunsBy k o.program p o.words before x r after q vs) steps_open h in
          (y.0, y.1, subst (λ x. Ran k o.program x o.words before y.0 after q vs) is_started y.2)

      pub never_refused : (x : Refusal) → Runs k o.program p o.words before (Err x) after q vs → ⊥
      never_refused x h = let y = ran_by (Err x) h in let e = y.1 in let z : ◌≡◌ {A = ℕ} 0 1 = cc in omega arith

      pub shows : (c : ℕ) (text : List ℕ) → Runs k o.program p o.words before (Ok c) after q vs → length before ≡ o.cycles → text ≡ cycle_lines (take c after) ++ last_line (report_answer q) → PrintsBy k o (refused o) text
      shows c text h l e =
          let y = ran_by (Ok c) h in
          let same : y.0 ≡ c = let u = y.1 in cc in
          let run : Ran k o.program (started o) o.words before c after q vs = subst (λ x. Ran k o.program (started o) o.words before x after q vs) same y.2 in
          subst (λ r. PrintsBy k o r text) (sym accepted_job) (record { before = before; after = after; count = c; machine = q; words = vs; cycles = l; run = run; lines = e })

  pub declines : (m : Machine) (x : Refusal) (k : Timing) (text : List ℕ) → m ≡ unloaded → Err x ≡ accepted (load_refusal m o.delays o.capacity (length o.program) (length o.words)) → text ≡ declined_line x → PrintsBy k o (refused o) text
  declines m x k text fresh answer e =
      subst (λ r. PrintsBy k o r text) (sym (turned_down x (answer ∙ ap (λ y. accepted (load_refusal y o.delays o.capacity (length o.program) (length o.words))) fresh))) e

-- the records of a list that a run filled, read from the front
pub front_of : {A : Type 0} (xs after rest : List A) (len done : ℕ) → xs ≡ take len (after ++ rest) → len ≡ length after → take (done - 0) xs ≡ take done after
front_of xs after rest len done e l =
    let z : done - 0 ≡ done = omega arith in
    ap (λ n. take n xs) z ∙ ap (take done) (e ∙ (ap (λ n. take n (after ++ rest)) l ∙ (take-append-le (length after) after rest (omega arith) ∙ take-length after)))
