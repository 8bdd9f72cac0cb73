-- A job that moves: what the spare does, and the plain machine that goes on beside it.
use Rattle.std.proofs.Common.{◌≡◌, ℕ, zero, suc, ◌+◌, ◌≤◌, min, Bool, true, false, cond, not, ◌&&◌, eqb, leb, List, [], ◌∷◌, ◌++◌, length, replicate, Some, None, Ok, Err, Option, Result, sym, refl, ap, ◌∙◌, subst, add-zero, add-suc, arith}
use Rattle.std.proofs.lemmas.Bool.{and_parts, leb-true, eq-eqb, le-leb}
use Rattle.std.specs.Result.{result_err}
use Rattle.isa.specs.declared.refusal.Refusal.{Refusal}
use Rattle.isa.specs.declared.refusal.Refusal.TheVariants as refusal
use Rattle.isa.specs.Table.{Instr, fetched, value_or}
use Rattle.isa.specs.Plain.{Plain}
use Rattle.recovery.specs.declared.Timing.{Timing}
use Rattle.images.specs.Image.{Snapshot, image_words, read_words}
use Rattle.pickcore.specs.declared.record.CycleRecord.{CycleRecord}
use Rattle.pickcore.specs.declared.record.Report.{Report}
use Rattle.pickcore.specs.Limits.{stretch, delays_fit, one_to_sixteen, program_fits, data_fits}
use Rattle.pickcore.specs.Calls.{Machine, unless, accepted, load_refusal, load_leaves, loaded, step_refusal, Rows, none, more, Ran, RunsBy, Runs, stopped_refusal, cut_off, cut_leaves, take_up_refusal, take_up_by, take_up_leaves, taken_up, resume_refusal, resume_leaves, resumed, report_answer, registers_answer, looked, imaged}
use Rattle.precision.specs.Steps.{steps, one_more}
use Rattle.precision.specs.Fit.{longest_of}
use Rattle.precision.specs.Life.{cut, take_up, resume, Event, Life, start, next}
use Rattle.precision.specs.Precise.{reported, plain_beside, Agrees, Precise}
use Rattle.precision.proofs.Lives.{lives_are_precise}
use Rattle.pickcore.specs.declared.setup.Setup.{Setup}
use Rattle.pickcore.specs.Setup.{setup_for}
use Rattle.jobs.specs.Play.{event, deed_unless, row_events, image_of}
use Rattle.jobs.specs.Precision.{loads_to}
use Rattle.jobs.specs.Move.{move_refusal, taken_over, Moves}
use Rattle.jobs.proofs.Counting.{step_ran}
use Rattle.jobs.proofs.Living.{joined, rows_life, cut_happens, accepted_none}

-- some steps, and then some more
steps_on : (code : ℕ → Instr) (a : ℕ) (p q : Plain) → steps code a p ≡ Ok q → (b : ℕ) → steps code (a + b) p ≡ steps code b q
steps_on code a p q e zero = ap (λ n. steps code n p) (add-zero a) ∙ e
steps_on code a p q e (suc b) = ap (λ n. steps code n p) (add-suc a b) ∙ ap (one_more code) (steps_on code a p q e b)

module _ (k : Timing) (program : List ℕ) (ws₀ : List ℕ) where
  -- steps of a core that still runs leave the plain machine
  rows_plain : {m : Machine} {ws : List ℕ} {rs : List CycleRecord} {n : Machine} {vs : List ℕ} (rows : Rows k program m ws rs n vs) (base : List Event) → n.running ≡ true
      → plain_beside program ws₀ (row_events rows ++ base) ≡ plain_beside program ws₀ base
  rows_plain none base on = refl
  rows_plain (more {n = n} {o = o} {vs = vs} {us = us} r rows st) base on =
      let p = plain_beside program ws₀ (row_events rows ++ base) in
      let quiet : reported n o ≡ false = ap (λ b. n.running && not b) on ∙ and_false n.running in
      ap (λ b. cond b (value_or p (steps (fetched program) o.pipe.count p)) p) quiet ∙ rows_plain rows base (step_ran k n program vs r o us st)
    where
      and_false : (b : Bool) → (b && false) ≡ false
      and_false true = refl
      and_false false = refl

  -- steps that end in a report agree with the plain machine as it stood before them
  rows_agree : {m : Machine} {ws : List ℕ} {rs : List CycleRecord} {n : Machine} {vs : List ℕ} (rows : Rows k program m ws rs n vs) (base : List Event) (longest : ℕ) → m.running ≡ true → n.running ≡ false
      → Precise k program ws₀ longest (row_events rows ++ base) → Agrees k program (plain_beside program ws₀ base) vs n
  rows_agree none base longest on off h = let e = sym on ∙ off in let z : ◌≡◌ {A = ℕ} 0 1 = cc in absurd (omega arith)
  rows_agree (more {n = n} {o = o} {vs = vs} {us = us} r rows st) base longest on off h =
      let ran = step_ran k n program vs r o us st in
      let made : reported n o ≡ true = ap (λ b. b && not o.running) ran ∙ ap not off in
      subst (λ q. Agrees k program q us o) (rows_plain rows base ran) (h.0 made)

-- the refusals of the spare: after it loaded, none

take_up_accepted : (m : Machine) (image : List ℕ) (s : Snapshot) → m.running ≡ false → read_words image ≡ Ok s → take_up_refusal m image ≡ None
take_up_accepted m image s off e = ap (λ b. cond b (Some refusal.Running) (result_err (read_words image))) off ∙ ap result_err e

resume_accepted : (m : Machine) (c : ℕ) → m.running ≡ false → c ≤ 65535 → resume_refusal m c ≡ None
resume_accepted m c off l = ap (λ b. cond b (Some refusal.Running) (cond (leb c 65535) None (Some refusal.Counter))) off ∙ ap (λ b. cond b None (Some refusal.Counter)) (le-leb c 65535 l)

-- a length that load accepts is the program's own
fits_lengths : (m : Machine) (ds : List ℕ) (c pl dl : ℕ) → load_refusal m ds c pl dl ≡ None → (pl ≤ 4096) × (dl ≤ 4096)
fits_lengths m ds c pl dl = by m.running (delays_fit ds) (one_to_sixteen c) (program_fits pl) refl (data_fits dl) refl
  where
    by : (r a b : Bool) (p : Bool) → program_fits pl ≡ p → (d : Bool) → data_fits dl ≡ d
        → cond r (Some refusal.Running) (cond (not a) (Some refusal.Delay) (cond (not b) (Some refusal.Capacity) (cond (not p) (Some refusal.Program) (cond (not d) (Some refusal.Data) None)))) ≡ None
        → (pl ≤ 4096) × (dl ≤ 4096)
    by true a b p ep d ed e = let z : ◌≡◌ {A = ℕ} 0 1 = cc in absurd (omega arith)
    by false false b p ep d ed e = let z : ◌≡◌ {A = ℕ} 0 1 = cc in absurd (omega arith)
    by false true false p ep d ed e = let z : ◌≡◌ {A = ℕ} 0 1 = cc in absurd (omega arith)
    by false true true false ep d ed e = let z : ◌≡◌ {A = ℕ} 0 1 = cc in absurd (omega arith)
    by false true true true ep false ed e = let z : ◌≡◌ {A = ℕ} 0 1 = cc in absurd (omega arith)
    by false true true true ep true ed e = (leb-true pl 4096 (and_parts (leb 1 pl) (leb pl 4096) ep).1, leb-true dl 4096 ed)

run_accepted : (m : Machine) (pl dl : ℕ) → m.running ≡ true → pl ≡ m.program_length → dl ≡ m.data_length → m.cycles ≡ 0 → step_refusal m pl dl ≡ None
run_accepted m pl dl on ep ed ec =
    ap (λ b. cond (not b) (Some refusal.Stopped) (cond (not (eqb pl m.program_length && eqb dl m.data_length)) (Some refusal.Length) (cond (leb stretch m.cycles) (Some refusal.Stretch) None))) on
    ∙ (ap (λ b. cond (not (b && eqb dl m.data_length)) (Some refusal.Length) (cond (leb stretch m.cycles) (Some refusal.Stretch) None)) (eq-eqb pl m.program_length ep)
    ∙ (ap (λ b. cond (not b) (Some refusal.Length) (cond (leb stretch m.cycles) (Some refusal.Stretch) None)) (eq-eqb dl m.data_length ed)
    ∙ ap (λ n. cond (leb stretch n) (Some refusal.Stretch) None) ec))

module _ (ka kb : Timing) (program : List ℕ) (ds : List ℕ) (capacity : ℕ) (scanner spare : Machine) (ws : List ℕ) (four : length ds ≡ 4) (stopped : scanner.running ≡ false)
    (ok : load_refusal spare ds capacity (min (length program) 4294967295) (min (length ws) 4294967295) ≡ None) where
  setup : Setup
  setup = setup_for ds capacity program ws

  state : Snapshot
  state = imaged ka scanner

  begun : Machine
  begun = loads_to spare (setup_for ds capacity program ws)

  begun_is : loads_to spare (setup_for ds capacity program ws) ≡ loaded ds capacity (min (length program) 4294967295) (min (length ws) 4294967295)
  begun_is = ap (λ o. unless o (loaded ds capacity (min (length program) 4294967295) (min (length ws) 4294967295)) spare) ok

  pub begun_off : (loads_to spare (setup_for ds capacity program ws)).running ≡ false
  begun_off = ap (λ (x : Machine). x.running) begun_is

  -- the three calls after the load are accepted
  pub takes : read_words (image_words (imaged ka scanner)) ≡ Ok (imaged ka scanner) → take_up_refusal (loads_to spare (setup_for ds capacity program ws)) (image_words (imaged ka scanner)) ≡ None
  takes reads = take_up_accepted (loads_to spare (setup_for ds capacity program ws)) (image_words (imaged ka scanner)) (imaged ka scanner) begun_off reads

  pub runs : step_refusal (taken_over spare (setup_for ds capacity program ws) (imaged ka scanner)) (length program) (length ws) ≡ None
  runs =
      let l = fits_lengths spare ds capacity (min (length program) 4294967295) (min (length ws) 4294967295) ok in
      let l0 = l.0 in
      let l1 = l.1 in
      run_accepted (taken_over spare (setup_for ds capacity program ws) (imaged ka scanner)) (length program) (length ws) refl
      (sym (ap (λ (x : Machine). x.program_length) begun_is ∙ omega arith)) (sym (ap (λ (x : Machine). x.data_length) begun_is ∙ omega arith)) refl

  module _ (reads : read_words (image_words (imaged ka scanner)) ≡ Ok (imaged ka scanner)) (near : scanner.pipe.next ≤ 65535)
      (c : ℕ) (records records' : List CycleRecord) (n : Machine) (vs : List ℕ) (ran : Ran kb program (taken_over spare (setup_for ds capacity program ws) (imaged ka scanner)) ws records c records' n vs) where
    held : Machine
    held = taken_up (loads_to spare (setup_for ds capacity program ws)) (imaged ka scanner)

    -- the first two events of the spare
    abbrev base : List Event
    base =
        event (resume scanner.pipe.next) (taken_up (loads_to spare (setup_for ds capacity program ws)) (imaged ka scanner)) (taken_over spare (setup_for ds capacity program ws) (imaged ka scanner)) ws
        ∷ (event (take_up (imaged ka scanner)) (loads_to spare (setup_for ds capacity program ws)) (taken_up (loads_to spare (setup_for ds capacity program ws)) (imaged ka scanner)) ws ∷ [])

    base_life : Life kb program (loads_to spare (setup_for ds capacity program ws)) ws base (taken_over spare (setup_for ds capacity program ws) (imaged ka scanner)) ws
    base_life =
        let m = loads_to spare (setup_for ds capacity program ws) in
        let image = image_words (imaged ka scanner) in
        let taken : taken_up m (imaged ka scanner) ≡ take_up_leaves m image = sym (ap (λ b. cond b m (take_up_by m (read_words image))) begun_off ∙ ap (take_up_by m) reads) in
        let off : (taken_up m (imaged ka scanner)).running ≡ false = begun_off in
        let none = resume_accepted (taken_up m (imaged ka scanner)) scanner.pipe.next off near in
        next (resume scanner.pipe.next) (next (take_up (imaged ka scanner)) start (image, takes reads, reads, taken, refl))
        (none, sym (ap (λ o. unless o (resumed (taken_up m (imaged ka scanner)) scanner.pipe.next) (taken_up m (imaged ka scanner))) none), refl)

    abbrev all : List Event
    all = event (deed_unless (stopped_refusal n) cut) n (cut_leaves n) vs ∷ (row_events ran.rows ++ base)

    all_life : Life kb program (loads_to spare (setup_for ds capacity program ws)) ws all (cut_leaves n) vs
    all_life = next (deed_unless (stopped_refusal n) cut) (joined kb program base_life (rows_life kb program ran.rows)) (cut_happens kb program [] [] 0 n vs (stopped_refusal n) refl)

    all_precise : Precise kb program ws (longest_of ds) all
    all_precise = lives_are_precise kb program ws spare ds capacity (min (length program) 4294967295) (min (length ws) 4294967295) all (cut_leaves n) vs four ok all_life

    -- a plain machine that agrees with the scanner stands where the spare begins
    stands : (p : Plain) (a : Agrees ka program p ws scanner) → plain_beside program ws base ≡ a.now
    stands p a =
        let here : List ℕ → ℕ → List ℕ → Plain = λ xs k ys. record { registers = xs; words = ys; counter = k } in
        let shown : registers_answer ka scanner ≡ (looked ka scanner.pipe.scheme, 0) = ap (λ b. cond {A = List ℕ × ℕ} b (replicate 16 0, 6) (looked ka scanner.pipe.scheme, 0)) stopped in
        let xs : looked ka scanner.pipe.scheme ≡ a.now.registers = ap (λ (r : List ℕ × ℕ). r.0) (sym shown ∙ a.registers) in
        let said : Ok (record { cause = scanner.cause; counter = scanner.pipe.next; count = scanner.pipe.count }) ≡ Ok a.report =
        sym (ap (λ b. cond b (Err refusal.Running) (Ok (record { cause = scanner.cause; counter = scanner.pipe.next; count = scanner.pipe.count }))) stopped) ∙ a.answers in
        let told : record { cause = scanner.cause; counter = scanner.pipe.next; count = scanner.pipe.count } ≡ a.report = cc in
        let at : scanner.pipe.next ≡ a.now.counter = ap (λ (r : Report). r.counter) told ∙ sym a.counter in
        ap (λ ys. here ys scanner.pipe.next ws) xs ∙ (ap (λ j. here a.now.registers j ws) at ∙ ap (here a.now.registers a.now.counter) (sym a.words))

    agreed : (p : Plain) (a : Agrees ka program p ws scanner) → Agrees kb program a.now vs (cut_leaves n)
    agreed p a = by n.running refl
      where
        by : (b : Bool) → n.running ≡ b → Agrees kb program a.now vs (cut_leaves n)
        by true on =
            let is : cut_leaves n ≡ cut_off n = ap (λ b. unless (cond b None (Some refusal.Stopped)) (cut_off n) n) on in
            let made : reported n (cut_leaves n) ≡ true = ap (λ b. b && not (cut_leaves n).running) on ∙ ap (λ (x : Machine). not x.running) is in
            subst (λ q. Agrees kb program q vs (cut_leaves n)) (rows_plain kb program ws ran.rows base on ∙ stands p a) (all_precise.0 made)
        by false off =
            let is : cut_leaves n ≡ n = ap (λ b. unless (cond b None (Some refusal.Stopped)) (cut_off n) n) off in
            subst (Agrees kb program a.now vs) (sym is)
            (subst (λ q. Agrees kb program q vs n) (stands p a) (rows_agree kb program ws ran.rows base (longest_of ds) refl off all_precise.2))

    pub moves : Moves ka kb program (setup_for ds capacity program ws) scanner spare ws records (record { image = image_words (imaged ka scanner); cycles = c }) (cut_leaves n) vs records'
    moves = record {
      image = refl;
      last = n;
      ran = ran;
      core = refl;
      events = all;
      life = all_life;
      precise = all_precise;
      goes_on = λ p a.
          let g = agreed p a in
          record { here = a.now; stood = a.ran; agrees = g; total = steps_on (fetched program) a.report.count p a.now a.ran g.report.count ∙ g.ran };
    }

-- what the calls of a move say, one after another

stopped_by : (m : Machine) (r : Report) → Ok r ≡ report_answer m → (m.running ≡ false) × (r.counter ≡ m.pipe.next)
stopped_by m r = by m.running refl
  where
    by : (b : Bool) → m.running ≡ b → Ok r ≡ cond b (Err refusal.Running) (Ok (record { cause = m.cause; counter = m.pipe.next; count = m.pipe.count })) → (m.running ≡ false) × (r.counter ≡ m.pipe.next)
    by true on e = let z : ◌≡◌ {A = ℕ} 0 1 = cc in absurd (omega arith)
    by false off e = (off, ap (λ (x : Report). x.counter) (let q : r ≡ record { cause = m.cause; counter = m.pipe.next; count = m.pipe.count } = cc in q))

shown_image : (k : Timing) (m : Machine) (ws : List ℕ) → m.running ≡ false → Ok ws ≡ image_of k m → ws ≡ image_words (imaged k m)
shown_image k m ws off e =
    let f : Ok ws ≡ Ok (image_words (imaged k m)) = e ∙ ap (λ b. cond b (Err refusal.Running) (Ok (image_words (imaged k m)))) off in
    let g : ws ≡ image_words (imaged k m) = cc in g

module _ (ka kb : Timing) (program : List ℕ) (ds : List ℕ) (capacity : ℕ) (scanner spare : Machine) (ws : List ℕ) (report : Report) (image : List ℕ) (setup : Setup)
    (told : Ok report ≡ report_answer scanner) (shown : Ok image ≡ image_of ka scanner) (reads : read_words (image_words (imaged ka scanner)) ≡ Ok (imaged ka scanner)) (near : report.counter ≤ 65535)
    (is : setup ≡ setup_for ds capacity program ws) where
  abbrev lengths : Setup
  lengths = setup_for ds capacity program ws

  off : scanner.running ≡ false
  off = (stopped_by scanner report told).0

  same_refusal : load_refusal spare setup.delays setup.capacity setup.program_length setup.data_length ≡ load_refusal spare ds capacity (min (length program) 4294967295) (min (length ws) 4294967295)
  same_refusal = ap (λ (s : Setup). load_refusal spare s.delays s.capacity s.program_length s.data_length) is

  pub refused_by : (x : Refusal) → Err x ≡ accepted (load_refusal spare setup.delays setup.capacity setup.program_length setup.data_length) → move_refusal scanner spare lengths ≡ Some x
  refused_by x e =
      ap (λ b. cond b (Some refusal.Running) (load_refusal spare ds capacity (min (length program) 4294967295) (min (length ws) 4294967295))) off
      ∙ by (load_refusal spare ds capacity (min (length program) 4294967295) (min (length ws) 4294967295)) (e ∙ ap accepted same_refusal)
    where
      by : (o : Option Refusal) → Err x ≡ accepted o → o ≡ Some x
      by None f = let z : ◌≡◌ {A = ℕ} 0 1 = cc in absurd (omega arith)
      by (Some y) f = let g : y ≡ x = cc in ap Some g

  module _ (u : Unit {0}) (loads : Ok u ≡ accepted (load_refusal spare setup.delays setup.capacity setup.program_length setup.data_length))
      (first : Machine) (left : first ≡ load_leaves spare setup.delays setup.capacity setup.program_length setup.data_length) (units : length first.delays ≡ 4) where
    unrefused : load_refusal spare ds capacity (min (length program) 4294967295) (min (length ws) 4294967295) ≡ None
    unrefused = accepted_none (load_refusal spare ds capacity (min (length program) 4294967295) (min (length ws) 4294967295)) u (loads ∙ ap accepted same_refusal)

    first_is : first ≡ loads_to spare lengths
    first_is = left ∙ ap (λ (s : Setup). load_leaves spare s.delays s.capacity s.program_length s.data_length) is

    four : length ds ≡ 4
    four = sym (ap (λ (x : Machine). length x.delays) (first_is ∙ ap (λ o. unless o (loaded ds capacity (min (length program) 4294967295) (min (length ws) 4294967295)) spare) unrefused)) ∙ units

    pub accepted_all : move_refusal scanner spare lengths ≡ None
    accepted_all = ap (λ b. cond b (Some refusal.Running) (load_refusal spare ds capacity (min (length program) 4294967295) (min (length ws) 4294967295))) off ∙ unrefused

    image_is : image ≡ image_words (imaged ka scanner)
    image_is = shown_image ka scanner image off shown

    first_off : (loads_to spare lengths).running ≡ false
    first_off = begun_off ka kb program ds capacity scanner spare ws four off unrefused

    pub take_up_none : take_up_refusal first image ≡ None
    take_up_none = ap (λ (m : Machine). take_up_refusal m image) first_is ∙ (ap (take_up_refusal (loads_to spare lengths)) image_is ∙ takes ka kb program ds capacity scanner spare ws four off unrefused reads)

    module _ (second : Machine) (took : second ≡ take_up_leaves first image) where
      second_is : second ≡ taken_up (loads_to spare lengths) (imaged ka scanner)
      second_is =
          took ∙ (ap (λ (m : Machine). take_up_leaves m image) first_is ∙ (ap (take_up_leaves (loads_to spare lengths)) image_is
          ∙ (ap (λ b. cond b (loads_to spare lengths) (take_up_by (loads_to spare lengths) (read_words (image_words (imaged ka scanner))))) first_off ∙ ap (take_up_by (loads_to spare lengths)) reads)))

      pub resume_none : resume_refusal second report.counter ≡ None
      resume_none = resume_accepted second report.counter (ap (λ (m : Machine). m.running) second_is ∙ first_off) near

      module _ (third : Machine) (resumes : third ≡ resume_leaves second report.counter) where
        third_is : third ≡ taken_over spare lengths (imaged ka scanner)
        third_is =
            resumes ∙ (ap (λ o. unless o (resumed second report.counter) second) resume_none
            ∙ (ap (λ (m : Machine). resumed m report.counter) second_is ∙ ap (resumed (taken_up (loads_to spare lengths) (imaged ka scanner))) (stopped_by scanner report told).1))

        pub run_none : step_refusal third (length program) (length ws) ≡ None
        run_none = ap (λ (m : Machine). step_refusal m (length program) (length ws)) third_is ∙ runs ka kb program ds capacity scanner spare ws four off unrefused

        module _ (records : List CycleRecord) (r : Result ℕ Refusal) (records' : List CycleRecord) (n : Machine) (vs : List ℕ) (ran : Runs kb program third ws records r records' n vs) where
          accepted_run : (c : ℕ) × (r ≡ Ok c) × Ran kb program third ws records c records' n vs
          accepted_run = subst (λ o. RunsBy kb program third ws records o r records' n vs) run_none ran

          pub never_declined : ((c : ℕ) → r ≡ Ok c → ⊥) → ⊥
          never_declined no_Ok = no_Ok accepted_run.0 accepted_run.1

          pub moved_on : (c : ℕ) → r ≡ Ok c → (spare' : Machine) → spare' ≡ cut_leaves n → Moves ka kb program lengths scanner spare ws records (record { image = image; cycles = c }) spare' vs records'
          moved_on c e spare' cuts =
              let same : accepted_run.0 ≡ c = let f = sym accepted_run.1 ∙ e in let q : accepted_run.0 ≡ c = cc in q in
              let over : Ran kb program (taken_over spare lengths (imaged ka scanner)) ws records c records' n vs =
              subst (λ (m : Machine). Ran kb program m ws records c records' n vs) third_is (subst (λ j. Ran kb program third ws records j records' n vs) same accepted_run.2) in
              let at : scanner.pipe.next ≤ 65535 = subst (λ j. j ≤ 65535) (stopped_by scanner report told).1 near in
              subst (λ (m : Machine). Moves ka kb program lengths scanner spare ws records (record { image = image; cycles = c }) m vs records') (sym cuts)
              (subst (λ (i : List ℕ). Moves ka kb program lengths scanner spare ws records (record { image = i; cycles = c }) (cut_leaves n) vs records') (sym image_is)
              (moves ka kb program ds capacity scanner spare ws four off unrefused reads at c records records' n vs over))
