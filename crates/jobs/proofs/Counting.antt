-- What the answer of a call says of the lists that it filled and of its events.
use Rattle.std.proofs.Common.{◌≡◌, ℕ, ◌+◌, Bool, true, false, cond, not, ◌&&◌, List, [], ◌∷◌, ◌++◌, length, take, Some, None, Ok, Err, vec_items, Option, Result, sym, refl, ap, ◌∙◌, subst, arith, length-append}
use Rattle.std.proofs.lemmas.List.{length-take-le}
use Rattle.isa.specs.declared.refusal.Refusal.{Refusal}
use Rattle.isa.specs.declared.refusal.Refusal.TheVariants as refusal
use Rattle.recovery.specs.declared.Timing.{Timing}
use Rattle.pickcore.specs.declared.record.CycleRecord.{CycleRecord}
use Rattle.images.specs.Image.{Snapshot, read_words}
use Rattle.pickcore.specs.Calls.{Machine, step_refusal, Step, Steps, Rows, none, more, step_by, report_answer, stopped_refusal, amend_refusal, resume_refusal}
use Rattle.pickcore.proofs.Sounds.{steppable}
use Rattle.precision.specs.Life.{Deed, cut, amend, resume, other, Event}
use Rattle.precision.specs.Precise.{reported}
use Rattle.jobs.specs.declared.call.Call.{Call}
use Rattle.jobs.specs.declared.call.Call.TheVariants as call
use Rattle.jobs.specs.declared.call.Answer.{Answer}
use Rattle.jobs.specs.declared.call.Answer.TheVariants as answer
use Rattle.jobs.specs.Play.{Outcome, simple, step_deed, step_outcome, row_events, RunBy, deed_unless, taking, Made, records_in, copies_in, steps_in, is_step, counted, reports_of, count_of, reports_in, instructions_in, cycles_in}

pub reports_append : (ds es : List Event) → reports_in (ds ++ es) ≡ reports_in ds + reports_in es
reports_append [] es = omega arith
reports_append (d ∷ ds) es = let h = reports_append ds es in omega arith

pub instructions_append : (ds es : List Event) → instructions_in (ds ++ es) ≡ instructions_in ds + instructions_in es
instructions_append [] es = omega arith
instructions_append (d ∷ ds) es = let h = instructions_append ds es in omega arith

pub cycles_append : (ds es : List Event) → cycles_in (ds ++ es) ≡ cycles_in ds + cycles_in es
cycles_append [] es = omega arith
cycles_append (d ∷ ds) es = let h = cycles_append ds es in omega arith

-- what one call made of the lists, the totals and its events
pub record Counted (m : Machine) (o : Outcome) : Type 0 where
  pub records : length o.records ≡ records_in o.answer
  pub copies : length o.written ≡ copies_in o.answer
  pub cycles : cycles_in o.events ≡ steps_in o.answer
  pub reports : reports_in o.events ≡ cond (reported m o.machine) 1 0
  pub instructions : instructions_in o.events ≡ cond (reported m o.machine) o.machine.pipe.count 0

-- one event of its own
one_event : (m : Machine) (ws : List ℕ) (a : Answer) (d : Deed) (n : Machine) → records_in a ≡ 0 → copies_in a ≡ 0 → steps_in a ≡ is_step d → Counted m (simple m ws a d n)
one_event m ws a d n r c s = record { records = sym r; copies = sym c; cycles = let e = s in omega arith; reports = omega arith; instructions = omega arith }

still : (b : Bool) → (b && not b) ≡ false
still true = refl
still false = refl

-- a step that is accepted finds the core running
pub step_ran : (k : Timing) (m : Machine) (program ws : List ℕ) (r : CycleRecord) (n : Machine) (vs : List ℕ) → Steps k m program ws (record { answer = Ok r; machine = n; words = vs }) → m.running ≡ true
step_ran k m program ws r n vs st = by (step_refusal m (length program) (length ws)) refl
  where
    by : (o : Option Refusal) → step_refusal m (length program) (length ws) ≡ o → m.running ≡ true
    by (Some x) e =
        let q = ap (λ (t : Step). t.answer) (st.is ∙ ap (step_by k m program ws st.tag) e) in
        let u : ◌≡◌ {A = ℕ} 0 1 = cc in absurd (omega arith)
    by None e = (steppable m (length program) (length ws) e).running

module _ (k : Timing) (program : List ℕ) (m : Machine) (ws : List ℕ) where
  pub rows_ran : {rs : List CycleRecord} {n : Machine} {vs : List ℕ} → Rows k program m ws rs n vs → n.running ≡ true → m.running ≡ true
  rows_ran none on = on
  rows_ran (more {n = n} {o = o} {vs = vs} {us = us} r rows st) on = rows_ran rows (step_ran k n program vs r o us st)

  row_cycles : {rs : List CycleRecord} {n : Machine} {vs : List ℕ} (rows : Rows k program m ws rs n vs) → cycles_in (row_events rows) ≡ length rs
  row_cycles none = refl
  row_cycles (more {rs = rs} r rows st) = let h = row_cycles rows in let l = length-append rs (r ∷ []) in omega arith

  -- only the last of some steps can make a report
  row_reports : {rs : List CycleRecord} {n : Machine} {vs : List ℕ} (rows : Rows k program m ws rs n vs)
      → (reports_in (row_events rows) ≡ cond (reported m n) 1 0) × (instructions_in (row_events rows) ≡ cond (reported m n) n.pipe.count 0)
  row_reports none = (sym (ap (λ b. cond b 1 0) (still m.running)), sym (ap (λ b. cond b m.pipe.count 0) (still m.running)))
  row_reports (more {n = n} {o = o} {vs = vs} {us = us} r rows st) =
      let on = step_ran k n program vs r o us st in
      let first = rows_ran rows on in
      let none_yet : reported m n ≡ false = ap (λ b. m.running && not b) on ∙ ap (λ b. b && false) first in
      let same : reported n o ≡ reported m o = ap (λ b. b && not o.running) on ∙ sym (ap (λ b. b && not o.running) first) in
      let h = row_reports rows in
      let a : reports_in (row_events rows) ≡ 0 = h.0 ∙ ap (λ b. cond b 1 0) none_yet in
      let i : instructions_in (row_events rows) ≡ 0 = h.1 ∙ ap (λ b. cond b n.pipe.count 0) none_yet in
      let c : cond {A = ℕ} (reported n o) 1 0 ≡ cond {A = ℕ} (reported m o) 1 0 = ap (λ b. cond b 1 0) same in
      let j : cond {A = ℕ} (reported n o) o.pipe.count 0 ≡ cond {A = ℕ} (reported m o) o.pipe.count 0 = ap (λ b. cond b o.pipe.count 0) same in
      (omega arith, omega arith)

module _ (k : Timing) (program last : List ℕ) (places : List CycleRecord) (space : ℕ) (m : Machine) (ws : List ℕ) where
  step_counted : (s : Step) → Counted m (step_outcome m s)
  step_counted s = record {
    records = refl;
    copies = refl;
    cycles = ends s.answer;
    reports = omega arith;
    instructions = omega arith;
  }
    where
      ends : (q : Result CycleRecord Refusal) → is_step (step_deed q) + 0 ≡ steps_in (answer.Stepped q)
      ends (Ok x) = refl
      ends (Err x) = refl

  run_counted : (ps : List CycleRecord) (o : Outcome) (x : Option Refusal) → RunBy k program ps m ws x o → Counted m o
  run_counted ps o (Some x) e = subst (Counted m) (sym e) (one_event m ws (answer.Ran (Err x)) other m refl refl refl)
  run_counted ps o None h =
      let c = h.0 in
      let after = h.1 in
      let n = h.2 in
      let vs = h.3 in
      let ran = h.4 in
      let l : length (take c after) ≡ c = let f = ran.few in let e = h.5 in length-take-le c after (omega arith) in
      subst (Counted m) (sym h.6) (record {
        records = l;
        copies = refl;
        cycles = row_cycles k program m ws ran.rows ∙ l;
        reports = (row_reports k program m ws ran.rows).0;
        instructions = (row_reports k program m ws ran.rows).1;
      })

  deed_steps : (o : Option Refusal) (d : Deed) → is_step d ≡ 0 → is_step (deed_unless o d) ≡ 0
  deed_steps None d e = e
  deed_steps (Some x) d e = refl

  taking_steps : (b : Bool) (r : Result Snapshot Refusal) → is_step (cond b other (taking r)) ≡ 0
  taking_steps true r = refl
  taking_steps false (Ok s) = refl
  taking_steps false (Err x) = refl

  pub made_counted : (c : Call) (o : Outcome) → Made k program last places space m ws c o → Counted m o
  made_counted call.Step o h = subst (Counted m) (sym h.2) (step_counted h.0)
  made_counted (call.Run limit) o h = run_counted (take limit places) o (step_refusal m (length program) (length ws)) h
  made_counted call.Request o h = subst (Counted m) (sym h) (one_event m ws _ _ _ refl refl refl)
  made_counted call.Cut o h = subst (Counted m) (sym h) (one_event m ws _ _ _ refl refl (sym (deed_steps (stopped_refusal m) cut refl)))
  made_counted (call.Amend r w) o h = subst (Counted m) (sym h) (one_event m ws _ _ _ refl refl (sym (deed_steps (amend_refusal m r) (amend r w) refl)))
  made_counted (call.TakeUp image) o h = subst (Counted m) (sym h) (one_event m ws _ _ _ refl refl (sym (taking_steps m.running (read_words (vec_items image)))))
  made_counted call.TakeUpImage o h = subst (Counted m) (sym h) (one_event m ws _ _ _ refl refl (sym (taking_steps m.running (read_words last))))
  made_counted (call.Resume c) o h = subst (Counted m) (sym h) (one_event m ws _ _ _ refl refl (sym (deed_steps (resume_refusal m c) (resume c) refl)))
  made_counted call.Report o h = subst (Counted m) (sym h) (one_event m ws _ _ _ refl refl refl)
  made_counted call.Registers o h = subst (Counted m) (sym h) (one_event m ws _ _ _ refl refl refl)
  made_counted call.Image o h = subst (Counted m) (sym h) (one_event m ws _ _ _ refl refl refl)
  made_counted call.Data o h = subst (Counted m) (sym h) (record { records = refl; copies = refl; cycles = refl; reports = omega arith; instructions = omega arith })

-- the count of a report, by what `report` answers after the call
pub counted_reports : (m o : Machine) → reports_of (counted m.running (report_answer o)) ≡ cond (reported m o) 1 0
counted_reports m o = by m.running o.running
  where
    by : (b c : Bool) → reports_of (counted b (cond c (Err refusal.Running) (Ok (record { cause = o.cause; counter = o.pipe.next; count = o.pipe.count })))) ≡ cond (b && not c) 1 0
    by true true = refl
    by true false = refl
    by false true = refl
    by false false = refl

pub counted_instructions : (m o : Machine) → count_of (counted m.running (report_answer o)) ≡ cond (reported m o) o.pipe.count 0
counted_instructions m o = by m.running o.running
  where
    by : (b c : Bool) → count_of (counted b (cond c (Err refusal.Running) (Ok (record { cause = o.cause; counter = o.pipe.next; count = o.pipe.count })))) ≡ cond (b && not c) o.pipe.count 0
    by true true = refl
    by true false = refl
    by false true = refl
    by false false = refl
