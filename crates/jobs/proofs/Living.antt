-- Every list of calls is a life of its core.
use Rattle.std.proofs.Common.{◌≡◌, ℕ, ◌≤◌, Bool, true, false, cond, List, [], ◌∷◌, ◌++◌, length, take, Some, None, Ok, Err, vec_items, Option, Result, sym, refl, ap, ◌∙◌, subst, arith}
use Rattle.std.specs.Result.{result_err}
use Rattle.isa.specs.declared.refusal.Refusal.{Refusal}
use Rattle.isa.specs.declared.refusal.Refusal.TheVariants as refusal
use Rattle.recovery.specs.declared.Timing.{Timing}
use Rattle.images.specs.Image.{Snapshot, read_words}
use Rattle.pickcore.specs.declared.record.CycleRecord.{CycleRecord}
use Rattle.pickcore.specs.Calls.{Machine, unless, accepted, load_refusal, loaded, step_refusal, Step, Steps, step_by, Rows, none, more, stopped_refusal, cut_leaves, amend_refusal, amend_leaves, take_up_leaves, resume_refusal, resume_leaves}
use Rattle.precision.specs.Life.{Deed, step, cut, amend, resume, other, Event, asked, requested, step_declined, cut_declined, amend_declined, take_up_declined, resume_declined, Happens, Life, start, next}
use Rattle.precision.proofs.Lives.{lives_are_precise}
use Rattle.jobs.specs.declared.call.Call.{Call}
use Rattle.jobs.specs.declared.call.Call.TheVariants as call
use Rattle.jobs.specs.declared.call.Answer.{Answer}
use Rattle.jobs.specs.declared.call.Answer.TheVariants as answer
use Rattle.pickcore.specs.declared.setup.Setup.{Setup}
use Rattle.jobs.specs.declared.call.Totals.{Totals}
use Rattle.jobs.specs.Play.{Outcome, event, simple, deed_unless, step_deed, row_events, RunBy, taking, Made, Played, nothing, further, Plays}
use Rattle.jobs.specs.Precision.{loads_to, Precisely, ListsArePrecise}

module _ (k : Timing) (program : List ℕ) where
  -- one event
  alone : (m : Machine) (ws : List ℕ) (d : Deed) (n : Machine) (vs : List ℕ) → Happens k program m ws d n vs → Life k program m ws (event d m n vs ∷ []) n vs
  alone m ws d n vs h = next d start h

  -- a life, and then another
  pub joined : {m n : Machine} {ws vs : List ℕ} {es ds : List Event} {o : Machine} {us : List ℕ} → Life k program m ws es n vs → Life k program n vs ds o us → Life k program m ws (ds ++ es) o us
  joined l start = l
  joined l (next d r h) = next d (joined l r) h

  pub rows_life : {m : Machine} {ws : List ℕ} {rs : List CycleRecord} {n : Machine} {vs : List ℕ} (rows : Rows k program m ws rs n vs) → Life k program m ws (row_events rows) n vs
  rows_life none = start
  rows_life (more r rows st) = next (step r) (rows_life rows) st

  -- a declined step leaves the data words
  words_stay : (m n : Machine) (ws vs : List ℕ) (x : Refusal) → Steps k m program ws (record { answer = Err x; machine = n; words = vs }) → vs ≡ ws
  words_stay m n ws vs x st = by (step_refusal m (length program) (length ws)) refl
    where
      by : (o : Option Refusal) → step_refusal m (length program) (length ws) ≡ o → vs ≡ ws
      by (Some y) e = ap (λ (t : Step). t.words) (st.is ∙ ap (step_by k m program ws st.tag) e)
      by None e =
          let q = ap (λ (t : Step). t.answer) (st.is ∙ ap (step_by k m program ws st.tag) e) in
          let u : ◌≡◌ {A = ℕ} 0 1 = cc in absurd (omega arith)

  step_happens : (m n : Machine) (ws vs : List ℕ) (r : Result CycleRecord Refusal) → Steps k m program ws (record { answer = r; machine = n; words = vs }) → Happens k program m ws (step_deed r) n vs
  step_happens m n ws vs (Ok r) st = st
  step_happens m n ws vs (Err x) st = (step_declined x program ws vs st, words_stay m n ws vs x st)

  module _ (last : List ℕ) (places : List CycleRecord) (space : ℕ) (m : Machine) (ws : List ℕ) where
    one : (a : Answer) (d : Deed) (n : Machine) (o : Outcome) → o ≡ simple m ws a d n → Happens k program m ws d n ws → Life k program m ws o.events o.machine o.words
    one a d n o e h = subst (λ (x : Outcome). Life k program m ws x.events x.machine x.words) (sym e) (alone m ws d n ws h)

    pub cut_happens : (x : Option Refusal) → stopped_refusal m ≡ x → Happens k program m ws (deed_unless x cut) (cut_leaves m) ws
    cut_happens None e = (e, refl, refl)
    cut_happens (Some y) e = (cut_declined y e, refl)

    amend_happens : (r w : ℕ) (x : Option Refusal) → amend_refusal m r ≡ x → Happens k program m ws (deed_unless x (amend r w)) (amend_leaves m r w) ws
    amend_happens r w None e = (e, refl, refl)
    amend_happens r w (Some y) e = (amend_declined y r w e, refl)

    resume_happens : (c : ℕ) (x : Option Refusal) → resume_refusal m c ≡ x → Happens k program m ws (deed_unless x (resume c)) (resume_leaves m c) ws
    resume_happens c None e = (e, refl, refl)
    resume_happens c (Some y) e = (resume_declined y c e, refl)

    take_up_happens : (image : List ℕ) (b : Bool) → m.running ≡ b → (r : Result Snapshot Refusal) → read_words image ≡ r → Happens k program m ws (cond b other (taking r)) (take_up_leaves m image) ws
    take_up_happens image true on r e = (take_up_declined refusal.Running image (ap (λ b. cond b (Some refusal.Running) (result_err (read_words image))) on), refl)
    take_up_happens image false off (Ok s) e = (image, ap (λ b. cond b (Some refusal.Running) (result_err (read_words image))) off ∙ ap result_err e, e, refl, refl)
    take_up_happens image false off (Err x) e = (take_up_declined x image (ap (λ b. cond b (Some refusal.Running) (result_err (read_words image))) off ∙ ap result_err e), refl)

    run_life : (ps : List CycleRecord) (o : Outcome) (x : Option Refusal) → RunBy k program ps m ws x o → Life k program m ws o.events o.machine o.words
    run_life ps o (Some x) e = one (answer.Ran (Err x)) other m o e (asked, refl)
    run_life ps o None h = subst (λ (x : Outcome). Life k program m ws x.events x.machine x.words) (sym h.6) (rows_life h.4.rows)

    made_life : (c : Call) (o : Outcome) → Made k program last places space m ws c o → Life k program m ws o.events o.machine o.words
    made_life call.Step o h =
        let s = h.0 in
        subst (λ (x : Outcome). Life k program m ws x.events x.machine x.words) (sym h.2) (alone m ws (step_deed s.answer) s.machine s.words (step_happens m s.machine ws s.words s.answer h.1))
    made_life (call.Run limit) o h = run_life (take limit places) o (step_refusal m (length program) (length ws)) h
    made_life call.Request o h = one _ _ _ o h (requested, refl)
    made_life call.Cut o h = one _ _ _ o h (cut_happens (stopped_refusal m) refl)
    made_life (call.Amend r w) o h = one _ _ _ o h (amend_happens r w (amend_refusal m r) refl)
    made_life (call.TakeUp image) o h = one _ _ _ o h (take_up_happens (vec_items image) m.running refl (read_words (vec_items image)) refl)
    made_life call.TakeUpImage o h = one _ _ _ o h (take_up_happens last m.running refl (read_words last) refl)
    made_life (call.Resume c) o h = one _ _ _ o h (resume_happens c (resume_refusal m c) refl)
    made_life call.Report o h = one _ _ _ o h (asked, refl)
    made_life call.Registers o h = one _ _ _ o h (asked, refl)
    made_life call.Image o h = one _ _ _ o h (asked, refl)
    made_life call.Data o h = subst (λ (x : Outcome). Life k program m ws x.events x.machine x.words) (sym h) (alone m ws other m ws (asked, refl))

pub played_life : {k : Timing} {program : List ℕ} {places : List CycleRecord} {space : ℕ} {m : Machine} {ws : List ℕ} {calls : List Call} {given : List Answer} {rows : List CycleRecord} {copied image : List ℕ} {es : List Event} {n : Machine} {vs : List ℕ}
    → Played k program places space m ws calls given rows copied image es n vs → Life k program m ws es n vs
played_life nothing = start
played_life {k = k} {program = program} (further {last = last} {n = n} {vs = vs} c o p h) = joined k program (played_life p) (made_life k program last _ _ n vs c o h)

pub lists_are_precise : ListsArePrecise
lists_are_precise k program setup places space m ws calls given rows copied image events n vs u ok p =
    let l = played_life p in
    (l, lives_are_precise k program ws m setup.delays setup.capacity setup.program_length setup.data_length events n vs u ok l)

-- a list of calls on a core as it was loaded
pub precisely : (k : Timing) (program : List ℕ) (setup : Setup) (calls : List Call) (answers : List Answer) (records : List CycleRecord) (copies : List ℕ) (m m' : Machine) (ws : List ℕ) (t : Totals) (answers' : List Answer) (records' : List CycleRecord) (copies' : List ℕ) (n : Machine) (vs : List ℕ)
    → length calls ≤ length answers → load_refusal m setup.delays setup.capacity setup.program_length setup.data_length ≡ None → length m'.delays ≡ 4 → m' ≡ loads_to m setup
    → Plays k program calls answers records copies m' ws t answers' records' copies' n vs → Precisely k program setup calls answers records copies m ws t answers' records' copies' n vs
precisely k program setup calls answers records copies m m' ws t answers' records' copies' n vs room ok four is p =
    let q = subst (λ (x : Machine). Plays k program calls answers records copies x ws t answers' records' copies' n vs) is p in
    let units : length setup.delays ≡ 4 = sym (ap (λ (x : Machine). length x.delays) (is ∙ ap (λ o. unless o (loaded setup.delays setup.capacity setup.program_length setup.data_length) m) ok)) ∙ four in
    let all = lists_are_precise k program setup records (length copies) m ws calls q.given q.rows q.copied q.image q.events n vs units ok q.played in
    record { room = room; loaded = ok; plays = q; life = all.0; precise = all.1 }

-- what is accepted has no refusal
pub accepted_none : (o : Option Refusal) (u : Unit {0}) → Ok u ≡ accepted o → o ≡ None
accepted_none None u e = refl
accepted_none (Some x) u e = let z : ◌≡◌ {A = ℕ} 0 1 = cc in absurd (omega arith)
