-- A list of calls, one call more at a time.
use Rattle.std.proofs.Common.{◌≡◌, ℕ, ◌+◌, ◌-◌, ◌*◌, ◌^◌, ◌<◌, ◌≤◌, Bool, true, false, cond, List, [], ◌∷◌, ◌++◌, length, get_or, take, drop, set, is_err, Some, None, Ok, Err, Option, Result, sym, refl, ap, ◌∙◌, subst, append_assoc, append-nil, arith, length-append, length-drop}
use Rattle.std.proofs.lemmas.List.{take_all, drop_all, take-append-drop, take_at, drop_at, drop-drop, drop_more, set-append_right}
use Rattle.isa.specs.declared.refusal.Refusal.{Refusal}
use Rattle.isa.specs.declared.refusal.Refusal.TheVariants as refusal
use Rattle.recovery.specs.declared.Timing.{Timing}
use Rattle.pickcore.specs.declared.record.CycleRecord.{CycleRecord}
use Rattle.pickcore.specs.declared.record.Report.{Report}
use Rattle.pickcore.specs.Calls.{Machine, report_answer}
use Rattle.precision.specs.Precise.{reported}
use Rattle.jobs.specs.declared.call.Call.{Call}
use Rattle.jobs.specs.declared.call.Answer.{Answer}
use Rattle.jobs.specs.declared.call.Totals.{Totals}
use Rattle.jobs.specs.Play.{Made, Filled, MadeInto, Played, nothing, further, Plays, or_image, noted, counted, reports_of, count_of, no_totals, records_in, copies_in, steps_in, reports_in, instructions_in, cycles_in}
use Rattle.jobs.proofs.Counting.{made_counted, counted_reports, counted_instructions, reports_append, instructions_append, cycles_append}

-- a list of calls up to the one with the index i
pub record Going (k : Timing) (program : List ℕ) (calls : List Call) (answers : List Answer) (records : List CycleRecord) (copies : List ℕ) (m : Machine) (ws : List ℕ)
    (i : ℕ) (t : Totals) (answers' : List Answer) (records' : List CycleRecord) (copies' : List ℕ) (last : List ℕ) (n : Machine) (vs : List ℕ) : Type 0 where
  pub plays : Plays k program (take i calls) answers records copies m ws t answers' records' copies' n vs
  pub image : plays.image ≡ last
  pub many : length plays.given ≡ i
  -- no total can wrap
  pub reports : t.reports ≤ i
  pub instructions : t.instructions ≤ i * 2 ^ 32
  pub cycles : t.cycles ≤ i * 2 ^ 64

-- what is left of a list of places
left_over : {X : Type 0} (rows before now : List X) → now ≡ rows ++ drop (length rows) before → drop (length rows) now ≡ drop (length rows) before
left_over rows before now e = ap (drop (length rows)) e ∙ drop_at rows (drop (length rows) before) (length rows) refl

-- places that are filled from the front, and some more of them
fill_more : {X : Type 0} (rows more before now rest : List X) → now ≡ rows ++ drop (length rows) before → Filled (drop (length rows) now) more rest
    → take (length rows) now ++ rest ≡ (rows ++ more) ++ drop (length (rows ++ more)) before
fill_more rows more before now rest e f =
    let a : take (length rows) now ≡ rows = ap (take (length rows)) e ∙ take_at rows (drop (length rows) before) (length rows) refl in
    let c : drop (length more) (drop (length rows) now) ≡ drop (length (rows ++ more)) before =
    ap (drop (length more)) (left_over rows before now e) ∙ (drop-drop (length more) (length rows) before ∙ ap (λ n. drop n before) (sym (length-append rows more))) in
    ap (λ xs. xs ++ rest) a ∙ (ap (λ xs. rows ++ xs) (f ∙ ap (λ xs. more ++ xs) c) ∙ sym (append_assoc rows more (drop (length (rows ++ more)) before)))

-- one answer more
answer_more : (given before now : List Answer) (i : ℕ) (a : Answer) → length given ≡ i → i < length before → now ≡ given ++ drop (length given) before → set now i a ≡ (given ++ (a ∷ [])) ++ drop (length (given ++ (a ∷ []))) before
answer_more given before now i a l h e =
    let n : length (given ++ (a ∷ [])) ≡ i + 1 = length-append given (a ∷ []) ∙ ap (λ k. k + 1) l in
    let d : drop (length given) before ≡ get_or before i a ∷ drop (i + 1) before = ap (λ k. drop k before) l ∙ drop_more before i a h in
    let z : i - i ≡ 0 = omega arith in
    ap (λ xs. set xs i a) e
    ∙ (set-append_right given (drop (length given) before) i i a l (omega arith)
    ∙ (ap (λ k. given ++ set (drop (length given) before) k a) z
    ∙ (ap (λ xs. given ++ set xs 0 a) d
    ∙ (sym (append_assoc given (a ∷ []) (drop (i + 1) before)) ∙ ap (λ k. (given ++ (a ∷ [])) ++ drop k before) (sym n)))))

-- how many places are filled at most
within : {X : Type 0} (rows before now : List X) → now ≡ rows ++ drop (length rows) before → length now ≡ length before → length rows ≤ length before
within rows before now e l =
    let a = ap length e ∙ length-append rows (drop (length rows) before) in
    let b = length-drop (length rows) before in
    omega arith

-- what is put back in the place of as much leaves a list as long as it was
put_length : {X : Type 0} (before new : List X) (n k : ℕ) → n ≤ length before → length new ≡ length (take k (drop n before)) → length (take n before ++ (new ++ drop k (drop n before))) ≡ length before
put_length before new n k l e =
    let a = length-append (take n before) (new ++ drop k (drop n before)) in
    let b = length-append new (drop k (drop n before)) in
    let c = length-append (take k (drop n before)) (drop k (drop n before)) in
    let d = ap length (take-append-drop k (drop n before)) in
    let f = length-append (take n before) (drop n before) in
    let g = ap length (take-append-drop n before) in
    omega arith

-- a core that declines to report runs
pub asked_running : (m : Machine) (r : Result Report Refusal) → r ≡ report_answer m → is_err r ≡ m.running
asked_running m r e = ap is_err e ∙ by m.running
  where
    by : (b : Bool) → is_err {T = Report} (cond b (Err refusal.Running) (Ok (record { cause = m.cause; counter = m.pipe.next; count = m.pipe.count }))) ≡ b
    by true = refl
    by false = refl

totals_same : {r r' w w' p p' x x' c c' : ℕ} → r ≡ r' → w ≡ w' → p ≡ p' → x ≡ x' → c ≡ c'
    → ◌≡◌ {A = Totals} (record { records = r; words = w; reports = p; instructions = x; cycles = c }) (record { records = r'; words = w'; reports = p'; instructions = x'; cycles = c' })
totals_same er ew ep ex ec = cc

one_report : (made : Option ℕ) → reports_of made ≤ 1
one_report None = omega arith
one_report (Some c) = omega arith

module _ (k : Timing) (program : List ℕ) (calls : List Call) (answers : List Answer) (records : List CycleRecord) (copies : List ℕ) (m : Machine) (ws : List ℕ) where
  pub going_none : Going k program calls answers records copies m ws 0 no_totals answers records copies [] m ws
  going_none = record {
    plays = record { given = []; rows = []; copied = []; image = []; events = []; played = nothing; answered = refl; recorded = refl; written = refl; totals = refl };
    image = refl;
    many = refl;
    reports = omega arith;
    instructions = omega arith;
    cycles = omega arith;
  }

  module _ (i : ℕ) (t : Totals) (answers' : List Answer) (records' : List CycleRecord) (copies' last : List ℕ) (n : Machine) (vs : List ℕ)
      (so : Going k program calls answers records copies m ws i t answers' records' copies' last n vs)
      (same_records : length records' ≡ length records) (same_copies : length copies' ≡ length copies) where
    -- the next call finds its places
    pub used : t.records ≤ length records'
    used =
        let e = ap (λ (x : Totals). x.records) so.plays.totals in
        let l = within so.plays.rows records records' so.plays.recorded same_records in
        omega arith

    pub copied : t.words ≤ length copies'
    copied =
        let e = ap (λ (x : Totals). x.words) so.plays.totals in
        let l = within so.plays.copied copies copies' so.plays.written same_copies in
        omega arith

    -- one call, lent what is left of the lists, which then stands in them again
    module _ (d : Call) (a : Answer) (rows space : ℕ) (rest : List CycleRecord) (left : List ℕ) (records'' : List CycleRecord) (copies'' : List ℕ) (o : Machine) (us : List ℕ)
        (inside : i < length calls) (room : i < length answers) (is : take (i + 1) calls ≡ take i calls ++ (d ∷ []))
        (all_rows : rows ≡ length records' - t.records) (all_space : space ≡ length copies' - t.words)
        (made : MadeInto k program last (take rows (drop t.records records')) (take space (drop t.words copies')) n vs d a rest left o us)
        (put_rows : records'' ≡ take t.records records' ++ (rest ++ drop rows (drop t.records records'))) (put_space : copies'' ≡ take t.words copies' ++ (left ++ drop space (drop t.words copies'))) where
      h : MadeInto k program last (drop t.records records') (drop t.words copies') n vs d a rest left o us
      h =
          let e = length-drop t.records records' in
          let f = length-drop t.words copies' in
          subst (λ xs. MadeInto k program last xs (drop t.words copies') n vs d a rest left o us) (take_all rows (drop t.records records') (omega arith))
          (subst (λ ys. MadeInto k program last (take rows (drop t.records records')) ys n vs d a rest left o us) (take_all space (drop t.words copies') (omega arith)) made)

      rows_now : t.records ≡ length so.plays.rows
      rows_now = ap (λ (x : Totals). x.records) so.plays.totals

      copied_now : t.words ≡ length so.plays.copied
      copied_now = ap (λ (x : Totals). x.words) so.plays.totals

      -- the call was made with what is left of the lists as they were lent
      made_here : Made k program so.plays.image (drop (length so.plays.rows) records) (length copies - length so.plays.copied) n vs d h.outcome
      made_here =
          let places : drop t.records records' ≡ drop (length so.plays.rows) records = ap (λ j. drop j records') rows_now ∙ left_over so.plays.rows records records' so.plays.recorded in
          let space : length (drop t.words copies') ≡ length copies - length so.plays.copied = let e = copied_now in let f = length-drop t.words copies' in omega arith in
          subst (λ xs. Made k program xs (drop (length so.plays.rows) records) (length copies - length so.plays.copied) n vs d h.outcome) (sym so.image)
          (subst (λ j. Made k program last (drop (length so.plays.rows) records) j n vs d h.outcome) space
          (subst (λ ps. Made k program last ps (length (drop t.words copies')) n vs d h.outcome) places h.made))

      totals_more : noted t a (counted n.running (report_answer o)) ≡ record {
        records = length (so.plays.rows ++ h.outcome.records);
        words = length (so.plays.copied ++ h.outcome.written);
        reports = reports_in (h.outcome.events ++ so.plays.events);
        instructions = instructions_in (h.outcome.events ++ so.plays.events);
        cycles = cycles_in (h.outcome.events ++ so.plays.events);
      }
      totals_more =
          let q = made_counted k program so.plays.image (drop (length so.plays.rows) records) (length copies - length so.plays.copied) n vs d h.outcome made_here in
          let lr = length-append so.plays.rows h.outcome.records in
          let lw = length-append so.plays.copied h.outcome.written in
          let ra = reports_append h.outcome.events so.plays.events in
          let ia = instructions_append h.outcome.events so.plays.events in
          let ca = cycles_append h.outcome.events so.plays.events in
          let tr = rows_now in
          let tw = copied_now in
          let tp = ap (λ (x : Totals). x.reports) so.plays.totals in
          let ti = ap (λ (x : Totals). x.instructions) so.plays.totals in
          let tc = ap (λ (x : Totals). x.cycles) so.plays.totals in
          let ar = ap records_in h.answers in
          let aw = ap copies_in h.answers in
          let ac = ap steps_in h.answers in
          let mr : reports_of (counted n.running (report_answer o)) ≡ reports_in h.outcome.events = counted_reports n o ∙ (ap (λ (x : Machine). cond {A = ℕ} (reported n x) 1 0) h.core ∙ sym q.reports) in
          let mi : count_of (counted n.running (report_answer o)) ≡ instructions_in h.outcome.events = counted_instructions n o ∙ (ap (λ (x : Machine). cond {A = ℕ} (reported n x) x.pipe.count 0) h.core ∙ sym q.instructions) in
          let qr = q.records in
          let qw = q.copies in
          let qc = q.cycles in
          totals_same (omega arith) (omega arith) (omega arith) (omega arith) (omega arith)

      -- the lists as the call leaves them
      records_filled : records'' ≡ (so.plays.rows ++ h.outcome.records) ++ drop (length (so.plays.rows ++ h.outcome.records)) records
      records_filled =
          let e = length-drop t.records records' in
          put_rows ∙ (ap (λ ys. take t.records records' ++ (rest ++ ys)) (drop_all rows (drop t.records records') (omega arith)) ∙ (ap (λ ys. take t.records records' ++ ys) (append-nil rest)
          ∙ (ap (λ j. take j records' ++ rest) rows_now
          ∙ fill_more so.plays.rows h.outcome.records records records' rest so.plays.recorded (subst (λ j. Filled (drop j records') h.outcome.records rest) rows_now h.records_filled))))

      copies_filled : copies'' ≡ (so.plays.copied ++ h.outcome.written) ++ drop (length (so.plays.copied ++ h.outcome.written)) copies
      copies_filled =
          let e = length-drop t.words copies' in
          put_space ∙ (ap (λ ys. take t.words copies' ++ (left ++ ys)) (drop_all space (drop t.words copies') (omega arith)) ∙ (ap (λ ys. take t.words copies' ++ ys) (append-nil left)
          ∙ (ap (λ j. take j copies' ++ left) copied_now
          ∙ fill_more so.plays.copied h.outcome.written copies copies' left so.plays.written (subst (λ j. Filled (drop j copies') h.outcome.written left) copied_now h.copies_filled))))

      -- the lists are long enough for what the call filled
      pub used_more : length rest ≡ length (take rows (drop t.records records')) → t.records + records_in a ≤ length records
      used_more l =
          let e = ap (λ (x : Totals). x.records) totals_more in
          let w = within (so.plays.rows ++ h.outcome.records) records records'' records_filled (ap length put_rows ∙ (put_length records' rest t.records rows used l ∙ same_records)) in
          omega arith

      pub copied_more : length left ≡ length (take space (drop t.words copies')) → t.words + copies_in a ≤ length copies
      copied_more l =
          let e = ap (λ (x : Totals). x.words) totals_more in
          let w = within (so.plays.copied ++ h.outcome.written) copies copies'' copies_filled (ap length put_space ∙ (put_length copies' left t.words space copied l ∙ same_copies)) in
          omega arith

      played_more : Played k program records (length copies) m ws (take (i + 1) calls) (so.plays.given ++ (a ∷ [])) (so.plays.rows ++ h.outcome.records) (so.plays.copied ++ h.outcome.written) (or_image a so.plays.image) (h.outcome.events ++ so.plays.events) o us
      played_more =
          subst (λ (cs : List Call). Played k program records (length copies) m ws cs (so.plays.given ++ (a ∷ [])) (so.plays.rows ++ h.outcome.records) (so.plays.copied ++ h.outcome.written) (or_image a so.plays.image) (h.outcome.events ++ so.plays.events) o us) (sym is)
          (subst (λ (x : Answer). Played k program records (length copies) m ws (take i calls ++ (d ∷ [])) (so.plays.given ++ (x ∷ [])) (so.plays.rows ++ h.outcome.records) (so.plays.copied ++ h.outcome.written) (or_image x so.plays.image) (h.outcome.events ++ so.plays.events) o us) (sym h.answers)
          (subst (λ (q : Machine). Played k program records (length copies) m ws (take i calls ++ (d ∷ [])) (so.plays.given ++ (h.outcome.answer ∷ [])) (so.plays.rows ++ h.outcome.records) (so.plays.copied ++ h.outcome.written) (or_image h.outcome.answer so.plays.image) (h.outcome.events ++ so.plays.events) q us) (sym h.core)
          (subst (λ (ys : List ℕ). Played k program records (length copies) m ws (take i calls ++ (d ∷ [])) (so.plays.given ++ (h.outcome.answer ∷ [])) (so.plays.rows ++ h.outcome.records) (so.plays.copied ++ h.outcome.written) (or_image h.outcome.answer so.plays.image) (h.outcome.events ++ so.plays.events) h.outcome.machine ys) (sym h.words)
          (further d h.outcome so.plays.played made_here))))

      pub going_more : count_of (counted n.running (report_answer o)) ≤ 2 ^ 32 → steps_in a ≤ 2 ^ 64
          → Going k program calls answers records copies m ws (i + 1) (noted t a (counted n.running (report_answer o))) (set answers' i a) records'' copies'' (or_image a last) o us
      going_more few short = record {
        plays = record {
          given = so.plays.given ++ (a ∷ []);
          rows = so.plays.rows ++ h.outcome.records;
          copied = so.plays.copied ++ h.outcome.written;
          image = or_image a so.plays.image;
          events = h.outcome.events ++ so.plays.events;
          played = played_more;
          answered = answer_more so.plays.given answers answers' i a so.many room so.plays.answered;
          recorded = records_filled;
          written = copies_filled;
          totals = totals_more;
        };
        image = ap (or_image a) so.image;
        many = length-append so.plays.given (a ∷ []) ∙ ap (λ j. j + 1) so.many;
        reports = let l = one_report (counted n.running (report_answer o)) in let p = so.reports in omega arith;
        instructions = let p = so.instructions in omega arith;
        cycles = let p = so.cycles in omega arith;
      }
