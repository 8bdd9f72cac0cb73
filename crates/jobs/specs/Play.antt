-- A list of calls on a core: what each answers and does, by the definitions of the core's calls.
use Rattle.std.specs.Prelude.{◌≡◌, ℕ, ◌+◌, ◌-◌, Bool, cond, List, [], ◌∷◌, ◌++◌, length, take, drop, Some, None, Ok, Err, vec_items, Option, Result}
use Rattle.isa.specs.declared.refusal.Refusal.{Refusal}
use Rattle.isa.specs.declared.refusal.Refusal.TheVariants as refusal
use Rattle.recovery.specs.declared.Timing.{Timing}
use Rattle.images.specs.Image.{Snapshot, image_words, read_words}
use Rattle.pickcore.specs.declared.record.CycleRecord.{CycleRecord}
use Rattle.pickcore.specs.declared.record.Report.{Report}
use Rattle.pickcore.specs.Calls.{Machine, accepted, step_refusal, Step, Steps, Rows, none, more, Ran, stopped_refusal, request_leaves, cut_leaves, amend_refusal, amend_leaves, take_up_refusal, take_up_leaves, resume_refusal, resume_leaves, report_answer, registers_answer, imaged}
use Rattle.precision.specs.Life.{Deed, step, cut, amend, take_up, resume, other, Event}
use Rattle.precision.specs.Precise.{reported}
use Rattle.jobs.specs.declared.call.Call.{Call}
use Rattle.jobs.specs.declared.call.Call.TheVariants as call
use Rattle.jobs.specs.declared.call.Answer.{Answer}
use Rattle.jobs.specs.declared.call.Totals.{Totals}
use Rattle.jobs.specs.declared.call.Answer.TheVariants as answer

-- what came of a call: its answer, the records and the data words that it wrote, its events, the newest first, and the
-- core and the data words after it
pub record Outcome : Type 0 where
  pub answer : Answer
  pub records : List CycleRecord
  pub written : List ℕ
  pub events : List Event
  pub machine : Machine
  pub words : List ℕ

abbrev pub event : Deed → Machine → Machine → List ℕ → Event
event d before after ws = record { deed = d; before = before; after = after; words = ws }

-- a call of one event that leaves the data words and writes no list
abbrev pub simple : Machine → List ℕ → Answer → Deed → Machine → Outcome
simple m ws a d n = record { answer = a; records = []; written = []; events = event d m n ws ∷ []; machine = n; words = ws }

-- a call that is declined does nothing
abbrev pub deed_unless : Option Refusal → Deed → Deed
deed_unless None d = d
deed_unless (Some x) d = other

-- a step that is accepted is one
abbrev pub step_deed : Result CycleRecord Refusal → Deed
step_deed (Ok r) = step r
step_deed (Err x) = other

abbrev pub step_outcome : Machine → Step → Outcome
step_outcome m s = record { answer = answer.Stepped s.answer; records = []; written = []; events = event (step_deed s.answer) m s.machine s.words ∷ []; machine = s.machine; words = s.words }

-- the events of accepted steps in a row
abbrev pub row_events : {k : Timing} {program : List ℕ} {m : Machine} {ws : List ℕ} {rs : List CycleRecord} {n : Machine} {vs : List ℕ} → Rows k program m ws rs n vs → List Event
row_events none = []
row_events (more {n = n} {o = o} {us = us} r rows st) = event (step r) n o us ∷ row_events rows

-- a run into the first places of a list, at most so many as its limit
abbrev pub RunBy : Timing → List ℕ → List CycleRecord → Machine → List ℕ → Option Refusal → Outcome → Type 0
RunBy k program places m ws (Some x) o = o ≡ simple m ws (answer.Ran (Err x)) other m
RunBy k program places m ws None o =
    (c : ℕ) × (after : List CycleRecord) × (n : Machine) × (vs : List ℕ) × (ran : Ran k program m ws places c after n vs)
    × (length after ≡ length places) × (o ≡ record { answer = answer.Ran (Ok c); records = take c after; written = []; events = row_events ran.rows; machine = n; words = vs })

-- the deed of a take-up
abbrev pub taking : Result Snapshot Refusal → Deed
taking (Ok s) = take_up s
taking (Err x) = other

abbrev pub take_up_deed : Machine → List ℕ → Deed
take_up_deed m image = cond m.running other (taking (read_words image))

abbrev pub take_up_outcome : Machine → List ℕ → List ℕ → Outcome
take_up_outcome m ws image = simple m ws (answer.Done (accepted (take_up_refusal m image))) (take_up_deed m image) (take_up_leaves m image)

-- the image of a stopped core
abbrev pub image_of : Timing → Machine → Result (List ℕ) Refusal
image_of k m = cond m.running (Err refusal.Running) (Ok (image_words (imaged k m)))

-- the registers of a stopped core, as `registers` answers them
abbrev pub registers_of : Timing → Machine → Result (List ℕ) Refusal
registers_of k m = cond m.running (Err refusal.Running) (Ok (registers_answer k m).0)

-- What comes of a call, where `last` are the words of the last image that was answered, `places` is what is left of the
-- list for records, and `space` is how many data words there is still room for.
abbrev pub Made : Timing → List ℕ → List ℕ → List CycleRecord → ℕ → Machine → List ℕ → Call → Outcome → Type 0
Made k program last places space m ws call.Step o = (s : Step) × Steps k m program ws s × (o ≡ step_outcome m s)
Made k program last places space m ws (call.Run limit) o = RunBy k program (take limit places) m ws (step_refusal m (length program) (length ws)) o
Made k program last places space m ws call.Request o = o ≡ simple m ws (answer.Done (accepted (stopped_refusal m))) other (request_leaves m)
Made k program last places space m ws call.Cut o = o ≡ simple m ws (answer.Done (accepted (stopped_refusal m))) (deed_unless (stopped_refusal m) cut) (cut_leaves m)
Made k program last places space m ws (call.Amend r w) o = o ≡ simple m ws (answer.Done (accepted (amend_refusal m r))) (deed_unless (amend_refusal m r) (amend r w)) (amend_leaves m r w)
Made k program last places space m ws (call.TakeUp image) o = o ≡ take_up_outcome m ws (vec_items image)
Made k program last places space m ws call.TakeUpImage o = o ≡ take_up_outcome m ws last
Made k program last places space m ws (call.Resume c) o = o ≡ simple m ws (answer.Done (accepted (resume_refusal m c))) (deed_unless (resume_refusal m c) (resume c)) (resume_leaves m c)
Made k program last places space m ws call.Report o = o ≡ simple m ws (answer.Reported (report_answer m)) other m
Made k program last places space m ws call.Registers o = o ≡ simple m ws (answer.Registers (registers_of k m)) other m
Made k program last places space m ws call.Image o = o ≡ simple m ws (answer.Imaged (image_of k m)) other m
Made k program last places space m ws call.Data o =
    o ≡ record { answer = answer.Data (length (take space ws)); records = []; written = take space ws; events = event other m m ws ∷ []; machine = m; words = ws }

-- the words of an image, or none where there is no image
abbrev pub words_known : Option (List ℕ) → List ℕ
words_known None = []
words_known (Some ws) = ws

-- the words of the last image with one answer more
abbrev pub or_image : Answer → List ℕ → List ℕ
or_image (answer.Stepped r) old = old
or_image (answer.Ran r) old = old
or_image (answer.Done r) old = old
or_image (answer.Reported r) old = old
or_image (answer.Registers r) old = old
or_image (answer.Imaged (Ok ws)) old = ws
or_image (answer.Imaged (Err x)) old = old
or_image (answer.Data n) old = old

-- Calls made one after another on the core m with the data words ws, with their answers, the records and data words that
-- they wrote, their events, the newest first, and the last image answered. `places` and `space` are what they were lent.
pub data Played (k : Timing) (program : List ℕ) (places : List CycleRecord) (space : ℕ) (m : Machine) (ws : List ℕ) : List Call → List Answer → List CycleRecord → List ℕ → List ℕ → List Event → Machine → List ℕ → Type 0 where
  nothing : Played k program places space m ws [] [] [] [] [] [] m ws
  further : {cs : List Call} {xs : List Answer} {rs : List CycleRecord} {us last : List ℕ} {es : List Event} {n : Machine} {vs : List ℕ} (c : Call) (o : Outcome)
      → Played k program places space m ws cs xs rs us last es n vs → Made k program last (drop (length rs) places) (space - length us) n vs c o
      → Played k program places space m ws (cs ++ (c ∷ [])) (xs ++ (o.answer ∷ [])) (rs ++ o.records) (us ++ o.written) (or_image o.answer last) (o.events ++ es) o.machine o.words

-- some things were written into a list from its front on, and later places stay
abbrev pub Filled : {X : Type 0} → List X → List X → List X → Type 0
Filled before xs after = after ≡ xs ++ drop (length xs) before

-- a run into the first places of a list, at most so many as its limit: what came of it, and the list after it
pub record RanInto (k : Timing) (program : List ℕ) (before : List CycleRecord) (limit : ℕ) (m : Machine) (ws : List ℕ) (r : Result ℕ Refusal) (after : List CycleRecord) (n : Machine) (vs : List ℕ) : Type 0 where
  pub records : List CycleRecord
  pub events : List Event
  pub is : RunBy k program (take limit before) m ws (step_refusal m (length program) (length ws)) (record { answer = answer.Ran r; records = records; written = []; events = events; machine = n; words = vs })
  pub filled : Filled before records after

-- a call of a list, lent what is left of the lists for records and for data words: what came of it, and these lists after it
pub record MadeInto (k : Timing) (program last : List ℕ) (records : List CycleRecord) (copies : List ℕ) (m : Machine) (ws : List ℕ) (c : Call) (a : Answer) (records' : List CycleRecord) (copies' : List ℕ) (n : Machine) (vs : List ℕ) : Type 0 where
  pub outcome : Outcome
  pub made : Made k program last records (length copies) m ws c outcome
  pub answers : a ≡ outcome.answer
  pub core : n ≡ outcome.machine
  pub words : vs ≡ outcome.words
  pub records_filled : Filled records outcome.records records'
  pub copies_filled : Filled copies outcome.written copies'

-- What some events come to: the reports made, the instructions that these count together, and the cycles.

abbrev pub reports_in : List Event → ℕ
reports_in [] = 0
reports_in (e ∷ es) = cond (reported e.before e.after) 1 0 + reports_in es

abbrev pub instructions_in : List Event → ℕ
instructions_in [] = 0
instructions_in (e ∷ es) = cond (reported e.before e.after) e.after.pipe.count 0 + instructions_in es

abbrev pub is_step : Deed → ℕ
is_step (step r) = 1
is_step cut = 0
is_step (amend r w) = 0
is_step (take_up s) = 0
is_step (resume c) = 0
is_step other = 0

abbrev pub cycles_in : List Event → ℕ
cycles_in [] = 0
cycles_in (e ∷ es) = is_step e.deed + cycles_in es

-- the cycles of a call, by its answer
abbrev pub steps_in : Answer → ℕ
steps_in (answer.Stepped (Ok r)) = 1
steps_in (answer.Stepped (Err x)) = 0
steps_in (answer.Ran (Ok c)) = c
steps_in (answer.Ran (Err x)) = 0
steps_in (answer.Done r) = 0
steps_in (answer.Reported r) = 0
steps_in (answer.Registers r) = 0
steps_in (answer.Imaged r) = 0
steps_in (answer.Data n) = 0

-- the places that a call fills in the list of records, and in the list of data words, by its answer
abbrev pub records_in : Answer → ℕ
records_in (answer.Stepped r) = 0
records_in (answer.Ran (Ok c)) = c
records_in (answer.Ran (Err x)) = 0
records_in (answer.Done r) = 0
records_in (answer.Reported r) = 0
records_in (answer.Registers r) = 0
records_in (answer.Imaged r) = 0
records_in (answer.Data n) = 0

abbrev pub copies_in : Answer → ℕ
copies_in (answer.Stepped r) = 0
copies_in (answer.Ran r) = 0
copies_in (answer.Done r) = 0
copies_in (answer.Reported r) = 0
copies_in (answer.Registers r) = 0
copies_in (answer.Imaged r) = 0
copies_in (answer.Data n) = n

-- the count of a report that a call made, where the core ran before it and `report` is what that then answers
abbrev pub counted : Bool → Result Report Refusal → Option ℕ
counted ran (Ok r) = cond ran (Some r.count) None
counted ran (Err x) = None

abbrev pub reports_of : Option ℕ → ℕ
reports_of None = 0
reports_of (Some c) = 1

abbrev pub count_of : Option ℕ → ℕ
count_of None = 0
count_of (Some c) = c

-- the totals with one call more
abbrev pub noted : Totals → Answer → Option ℕ → Totals
noted t a made = record { records = t.records + records_in a; words = t.words + copies_in a; reports = t.reports + reports_of made; instructions = t.instructions + count_of made; cycles = t.cycles + steps_in a }

abbrev pub no_totals : Totals
no_totals = record { records = 0; words = 0; reports = 0; instructions = 0; cycles = 0 }

-- A list of calls made on the core m with the data words ws, lent the lists `answers`, `records` and `copies`: there are
-- answers, records, data words and events of these very calls; the lists hold them from the front, and later places stay.
pub record Plays (k : Timing) (program : List ℕ) (calls : List Call) (answers : List Answer) (records : List CycleRecord) (copies : List ℕ) (m : Machine) (ws : List ℕ) (t : Totals) (answers' : List Answer) (records' : List CycleRecord) (copies' : List ℕ) (n : Machine) (vs : List ℕ) : Type 0 where
  pub given : List Answer
  pub rows : List CycleRecord
  pub copied : List ℕ
  pub image : List ℕ
  pub events : List Event
  pub played : Played k program records (length copies) m ws calls given rows copied image events n vs
  pub answered : answers' ≡ given ++ drop (length given) answers
  pub recorded : records' ≡ rows ++ drop (length rows) records
  pub written : copies' ≡ copied ++ drop (length copied) copies
  pub totals : t ≡ record { records = length rows; words = length copied; reports = reports_in events; instructions = instructions_in events; cycles = cycles_in events }
