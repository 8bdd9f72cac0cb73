-- The calls that were played, as the text tells them.
use Rattle.std.proofs.Common.{◌≡◌, ℕ, ◌*◌, List, [], ◌∷◌, ◌++◌, length, take, drop, Ok, Option, sym, refl, ap, ◌∙◌, subst, append-nil, arith, length-append}
use Rattle.std.proofs.lemmas.List.{take_at, drop_all}
use Rattle.isa.specs.declared.refusal.Refusal.{Refusal}
use Rattle.recovery.specs.declared.Timing.{Timing}
use Rattle.pickcore.specs.declared.record.CycleRecord.{CycleRecord}
use Rattle.pickcore.specs.Calls.{Machine, unloaded}
use Rattle.precision.specs.Life.{Event}
use Rattle.jobs.specs.declared.call.Call.{Call}
use Rattle.jobs.specs.declared.call.Answer.{Answer}
use Rattle.pickcore.specs.declared.setup.Setup.{Setup}
use Rattle.jobs.specs.declared.call.Totals.{Totals}
use Rattle.pickcore.specs.Setup.{setup_for}
use Rattle.jobs.specs.Play.{Played, nothing, further}
use Rattle.jobs.specs.Precision.{loads_to, Precisely}
use Rattle.printing.specs.Lines.{load_line, totals_line}
use Rattle.deskrun.specs.Desk.{cycles_asked, copies_asked, answers_text, Tells, TellsOn}

-- there is an answer for each call
as_many : {k : Timing} {program : List ℕ} {places : List CycleRecord} {space : ℕ} {m : Machine} {ws : List ℕ} {calls : List Call} {given : List Answer} {rows : List CycleRecord} {copied image : List ℕ} {es : List Event} {n : Machine} {vs : List ℕ}
    → Played k program places space m ws calls given rows copied image es n vs → length given ≡ length calls
as_many nothing = refl
as_many (further {cs = cs} {xs = xs} c o p h) = let l = length-append cs (c ∷ []) in let g = length-append xs (o.answer ∷ []) in let e = as_many p in omega arith

module _ (k : Timing) (delays : List ℕ) (capacity : ℕ) (program ws : List ℕ) (calls : List Call) (answers : List Answer) (records : List CycleRecord) (copies : List ℕ) where
  telling : (totals : Totals) (answers' : List Answer) (records' : List CycleRecord) (copies' : List ℕ) (n : Machine) (vs text : List ℕ)
      → length records ≡ cycles_asked calls → length copies ≡ copies_asked calls * length ws → length answers ≡ length calls
      → Precisely k program (setup_for delays capacity program ws) calls answers records copies unloaded ws totals answers' records' copies' n vs
      → text ≡ load_line (Ok tt) ++ (answers_text calls answers' (take totals.records records') (take totals.words copies') ++ totals_line totals.reports totals.instructions totals.cycles)
      → TellsOn k delays capacity program ws calls text
  telling totals answers' records' copies' n vs text many space all h e =
      let setup = setup_for delays capacity program ws in
      let p = h.plays in
      let given : answers' ≡ p.given = p.answered ∙ (ap (λ xs. p.given ++ xs) (drop_all (length p.given) answers (let l = as_many p.played in omega arith)) ∙ append-nil p.given) in
      let rows : take totals.records records' ≡ p.rows = ap (λ j. take j records') (ap (λ (t : Totals). t.records) p.totals) ∙ (ap (take (length p.rows)) p.recorded ∙ take_at p.rows (drop (length p.rows) records) (length p.rows) refl) in
      let copied : take totals.words copies' ≡ p.copied = ap (λ j. take j copies') (ap (λ (t : Totals). t.words) p.totals) ∙ (ap (take (length p.copied)) p.written ∙ take_at p.copied (drop (length p.copied) copies) (length p.copied) refl) in
      let last : Totals → List ℕ = λ t. totals_line t.reports t.instructions t.cycles in
      subst (λ (o : Option Refusal). Tells k setup program ws calls o text) (sym h.loaded) (record {
        places = records;
        many = many;
        given = p.given;
        rows = p.rows;
        copied = p.copied;
        image = p.image;
        events = p.events;
        last = n;
        words = vs;
        played = subst (λ j. Played k program records j (loads_to unloaded setup) ws calls p.given p.rows p.copied p.image p.events n vs) space p.played;
        precise = h.precise;
        lines = e ∙ (ap (λ xs. load_line (Ok tt) ++ (answers_text calls xs (take totals.records records') (take totals.words copies') ++ last totals)) given
            ∙ (ap (λ xs. load_line (Ok tt) ++ (answers_text calls p.given xs (take totals.words copies') ++ last totals)) rows
            ∙ (ap (λ xs. load_line (Ok tt) ++ (answers_text calls p.given p.rows xs ++ last totals)) copied
            ∙ ap (λ t. load_line (Ok tt) ++ (answers_text calls p.given p.rows p.copied ++ last t)) p.totals)));
      })

  -- the same for a core and a setup that are these
  pub tells : (m : Machine) (setup : Setup) (totals : Totals) (answers' : List Answer) (records' : List CycleRecord) (copies' : List ℕ) (n : Machine) (vs text : List ℕ)
      → m ≡ unloaded → setup ≡ setup_for delays capacity program ws → length records ≡ cycles_asked calls → length copies ≡ copies_asked calls * length ws → length answers ≡ length calls
      → Precisely k program setup calls answers records copies m ws totals answers' records' copies' n vs
      → text ≡ load_line (Ok tt) ++ (answers_text calls answers' (take totals.records records') (take totals.words copies') ++ totals_line totals.reports totals.instructions totals.cycles)
      → TellsOn k delays capacity program ws calls text
  tells m setup totals answers' records' copies' n vs text em es many space all h e =
      telling totals answers' records' copies' n vs text many space all
      (subst (λ (x : Machine). Precisely k program (setup_for delays capacity program ws) calls answers records copies x ws totals answers' records' copies' n vs) em
      (subst (λ (s : Setup). Precisely k program s calls answers records copies m ws totals answers' records' copies' n vs) es h)) e
