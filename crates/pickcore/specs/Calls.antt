-- The calls on a core: which refusal comes first, and what an accepted call leaves.
use Rattle.std.specs.Prelude.{◌≡◌, ℕ, ◌+◌, ◌<◌, ◌≤◌, Bool, true, false, cond, not, ◌&&◌, List, [], ◌∷◌, ◌++◌, map, length, take, drop, replicate, Some, None, Ok, Err, Option, Result, ◌==◌, ◌≢◌, nat_le}
use Rattle.std.specs.List.{range_with_len}
use Rattle.isa.specs.declared.fault.Cause.{Cause}
use Rattle.isa.specs.declared.fault.Cause.TheVariants as cause
use Rattle.isa.specs.declared.refusal.Refusal.{Refusal}
use Rattle.isa.specs.declared.refusal.Refusal.TheVariants as refusal
use Rattle.isa.specs.Numbers.{refusal_number}
use Rattle.recovery.specs.declared.Timing.{Timing}
use Rattle.recovery.specs.Meaning.{Meaning, has_tag, blank, place_leaves, look_answer, oldest_answer}
use Rattle.std.specs.Result.{result_err}
use Rattle.images.specs.Image.{Snapshot, write_answer, write_leaves, read_words}
use Rattle.pickcore.specs.declared.record.CycleRecord.{CycleRecord}
use Rattle.pickcore.specs.declared.record.Report.{Report}
use Rattle.pickcore.specs.declared.record.Ending.{Ending}
use Rattle.pickcore.specs.declared.record.Ending.TheVariants.{Issued, Stored, Held, Stopped}
use Rattle.pickcore.specs.Record.{record_of}
use Rattle.pickcore.specs.Limits.{one_to_sixteen, delays_fit, program_fits, data_fits, stretch}
use Rattle.pickcore.specs.Cycle.{Pipe, Turn, emptied, cycle, retires, flight_at_admission}
use Rattle.pickcore.specs.Model.{setting}

-- a core: the pipe that its cycles move, what it was loaded with, the cycles since the resume, whether it runs, whether
-- a request is marked, and the cause of its last stop
pub record Machine : Type 0 where
  pub pipe : Pipe
  pub delays : List ℕ
  pub program_length : ℕ
  pub data_length : ℕ
  pub cycles : ℕ
  pub running : Bool
  pub requested : Bool
  pub cause : Option Cause

-- the answer of a call that is accepted where there is no refusal
abbrev pub accepted : Option Refusal → Result (Unit {0}) Refusal
accepted None = Ok tt
accepted (Some x) = Err x

abbrev pub unless : {A : Type 0} → Option Refusal → A → A → A
unless None new old = new
unless (Some x) new old = old

-- new and load

-- nothing in flight, no stage taken, all zero
abbrev pub idle_pipe : ℕ → Pipe
idle_pipe capacity = record { scheme = blank capacity; stages = replicate 16 None; next = 0; count = 0 }

abbrev pub loaded : List ℕ → ℕ → ℕ → ℕ → Machine
loaded delays capacity program_length data_length = record { pipe = idle_pipe capacity; delays = delays; program_length = program_length; data_length = data_length; cycles = 0; running = false; requested = false; cause = None }

-- a core never loaded: delays, capacity and program length 1, no data words
abbrev pub unloaded : Machine
unloaded = loaded (1 ∷ 1 ∷ 1 ∷ 1 ∷ []) 1 1 0

abbrev pub load_refusal : Machine → List ℕ → ℕ → ℕ → ℕ → Option Refusal
load_refusal m delays capacity program_length data_length =
    cond m.running (Some refusal.Running)
    (cond (not (delays_fit delays)) (Some refusal.Delay)
    (cond (not (one_to_sixteen capacity)) (Some refusal.Capacity)
    (cond (not (program_fits program_length)) (Some refusal.Program)
    (cond (not (data_fits data_length)) (Some refusal.Data) None))))

abbrev pub load_leaves : Machine → List ℕ → ℕ → ℕ → ℕ → Machine
load_leaves m delays capacity program_length data_length =
    unless (load_refusal m delays capacity program_length data_length) (loaded delays capacity program_length data_length) m

-- resume

abbrev pub resume_refusal : Machine → ℕ → Option Refusal
resume_refusal m counter = cond m.running (Some refusal.Running) (cond (nat_le counter 65535) None (Some refusal.Counter))

-- it starts at the counter, with count and cycles 0
abbrev pub resumed : Machine → ℕ → Machine
resumed m counter = record { pipe = record { scheme = m.pipe.scheme; stages = m.pipe.stages; next = counter; count = 0 }; delays = m.delays; program_length = m.program_length; data_length = m.data_length; cycles = 0; running = true; requested = m.requested; cause = m.cause }

abbrev pub resume_leaves : Machine → ℕ → Machine
resume_leaves m counter = unless (resume_refusal m counter) (resumed m counter) m

-- step

abbrev pub step_refusal : Machine → ℕ → ℕ → Option Refusal
step_refusal m program_length data_length =
    cond (not m.running) (Some refusal.Stopped)
    (cond (not (program_length == m.program_length && data_length == m.data_length)) (Some refusal.Length)
    (cond (nat_le stretch m.cycles) (Some refusal.Stretch) None))

-- whether a request stays marked past a stop: only one that is met is cleared
abbrev pub still_marked : Bool → Cause → Bool
still_marked marked (cause.Fault f) = marked
still_marked marked cause.Request = false
still_marked marked cause.Cut = marked

abbrev pub stopped : Machine → Cause → Machine
stopped m c = record { pipe = m.pipe; delays = m.delays; program_length = m.program_length; data_length = m.data_length; cycles = m.cycles; running = false; requested = still_marked m.requested c; cause = Some c }

-- the core after a cycle that left the pipe p: it goes on, or stops with a cause
abbrev pub goes_on : Machine → Pipe → Machine
goes_on m p = record { pipe = p; delays = m.delays; program_length = m.program_length; data_length = m.data_length; cycles = m.cycles + 1; running = m.running; requested = m.requested; cause = m.cause }

abbrev pub after_ending : Machine → Pipe → Ending → Machine
after_ending m p (Issued c) = goes_on m p
after_ending m p (Stored c) = goes_on m p
after_ending m p (Held h) = goes_on m p
after_ending m p (Stopped c) = stopped (goes_on m p) c

-- a step: its answer, and what it leaves of core and data words
pub record Step : Type 0 where
  pub answer : Result CycleRecord Refusal
  pub machine : Machine
  pub words : List ℕ

abbrev pub step_turn : Timing → Machine → List ℕ → List ℕ → ℕ → Turn
step_turn k m program ws t = cycle (setting k m.delays program) m.requested t m.pipe ws

abbrev pub turned : Machine → Turn → Step
turned m u = record { answer = Ok (record_of (retires m.pipe) u.ending); machine = after_ending m u.pipe u.ending; words = u.words }

abbrev pub step_by : Timing → Machine → List ℕ → List ℕ → ℕ → Option Refusal → Step
step_by k m program ws t (Some x) = record { answer = Err x; machine = m; words = ws }
step_by k m program ws t None = turned m (step_turn k m program ws t)

-- a step, where t is the tag that admit would choose
abbrev pub step_of : Timing → Machine → List ℕ → List ℕ → ℕ → Step
step_of k m program ws t = step_by k m program ws t (step_refusal m (length program) (length ws))

-- a step by the tag that the scheme chose: any that no entry in flight has
pub record Steps (k : Timing) (m : Machine) (program ws : List ℕ) (s : Step) : Type 0 where
  pub tag : ℕ
  pub free : has_tag tag (flight_at_admission m.pipe) ≡ false
  pub is : s ≡ step_of k m program ws tag

-- amend, request and cut

abbrev pub with_pipe : Machine → Pipe → Machine
with_pipe m p = record { pipe = p; delays = m.delays; program_length = m.program_length; data_length = m.data_length; cycles = m.cycles; running = m.running; requested = m.requested; cause = m.cause }

abbrev pub amend_refusal : Machine → ℕ → Option Refusal
amend_refusal m register = cond m.running (Some refusal.Running) (cond (nat_le register 15) None (Some refusal.Register))

-- the word goes to its register, as place does it
abbrev pub amended : Machine → ℕ → ℕ → Machine
amended m register word = with_pipe m (record { scheme = place_leaves m.pipe.scheme register word; stages = m.pipe.stages; next = m.pipe.next; count = m.pipe.count })

abbrev pub amend_leaves : Machine → ℕ → ℕ → Machine
amend_leaves m register word = unless (amend_refusal m register) (amended m register word) m

-- why a request or a cut is declined
abbrev pub stopped_refusal : Machine → Option Refusal
stopped_refusal m = cond m.running None (Some refusal.Stopped)

abbrev pub marked : Machine → Machine
marked m = record { pipe = m.pipe; delays = m.delays; program_length = m.program_length; data_length = m.data_length; cycles = m.cycles; running = m.running; requested = true; cause = m.cause }

abbrev pub request_leaves : Machine → Machine
request_leaves m = unless (stopped_refusal m) (marked m) m

abbrev pub counter_or : Option ℕ → ℕ → ℕ
counter_or None next = next
counter_or (Some c) next = c

-- the flight is backed out and the stages are emptied, at the oldest entry's counter, or the next one if none flies
abbrev pub cut_off : Machine → Machine
cut_off m = stopped (with_pipe m (emptied m.pipe (counter_or (oldest_answer m.pipe.scheme) m.pipe.next))) cause.Cut

abbrev pub cut_leaves : Machine → Machine
cut_leaves m = unless (stopped_refusal m) (cut_off m) m

-- run

-- accepted steps in a row, one record for each
pub data Rows (k : Timing) (program : List ℕ) (m : Machine) (ws : List ℕ) : List CycleRecord → Machine → List ℕ → Type 0 where
  none : Rows k program m ws [] m ws
  more : {rs : List CycleRecord} {n o : Machine} {vs us : List ℕ} (r : CycleRecord) → Rows k program m ws rs n vs
      → Steps k n program vs (record { answer = Ok r; machine = o; words = us }) → Rows k program m ws (rs ++ (r ∷ [])) o us

-- an accepted run: its first c places hold the records of c steps, later places stay, and it ends before the list is
-- full only where a further step is declined
pub record Ran (k : Timing) (program : List ℕ) (m : Machine) (ws : List ℕ) (before : List CycleRecord) (c : ℕ) (after : List CycleRecord) (n : Machine) (vs : List ℕ) : Type 0 where
  pub few : c ≤ length before
  pub rows : Rows k program m ws (take c after) n vs
  pub kept : drop c after ≡ drop c before
  pub long : c < length before → step_refusal n (length program) (length vs) ≢ None

-- a run that a step would be refused is refused so, and changes nothing
abbrev pub RunsBy : Timing → List ℕ → Machine → List ℕ → List CycleRecord → Option Refusal → Result ℕ Refusal → List CycleRecord → Machine → List ℕ → Type 0
RunsBy k program m ws before (Some x) r after n vs = (r ≡ Err x) × (after ≡ before) × (n ≡ m) × (vs ≡ ws)
RunsBy k program m ws before None r after n vs = (c : ℕ) × (r ≡ Ok c) × Ran k program m ws before c after n vs

abbrev pub Runs : Timing → List ℕ → Machine → List ℕ → List CycleRecord → Result ℕ Refusal → List CycleRecord → Machine → List ℕ → Type 0
Runs k program m ws before r after n vs = RunsBy k program m ws before (step_refusal m (length program) (length ws)) r after n vs

-- report and registers

abbrev pub report_answer : Machine → Result Report Refusal
report_answer m = cond m.running (Err refusal.Running) (Ok (record { cause = m.cause; counter = m.pipe.next; count = m.pipe.count }))

abbrev pub word_or_0 : Option ℕ → ℕ
word_or_0 None = 0
word_or_0 (Some w) = w

-- what look answers for each of the sixteen registers
abbrev pub looked : Timing → Meaning → List ℕ
looked k m = map (λ r. word_or_0 (look_answer k m r)) (range_with_len 0 16)

-- all sixteen words with 0, or sixteen zeros with the refusal's number
abbrev pub registers_answer : Timing → Machine → List ℕ × ℕ
registers_answer k m = cond m.running (replicate 16 0, refusal_number refusal.Running) (looked k m.pipe.scheme, 0)

-- write_image

-- the most that an image's count may be, which a core changed by calls alone never passes
abbrev pub count_of_image : ℕ → ℕ
count_of_image n = cond (nat_le n stretch) n stretch

-- the state that an image of the core holds
abbrev pub imaged : Timing → Machine → Snapshot
imaged k m = record { registers = looked k m.pipe.scheme; counter = m.pipe.next; cause = m.cause; count = count_of_image m.pipe.count }

-- a core that runs has no image, and the buffer stays as it is
abbrev pub image_answer : Machine → List ℕ → Result (Unit {0}) Refusal
image_answer m before = cond m.running (Err refusal.Running) (write_answer before)

abbrev pub image_leaves : Timing → Machine → List ℕ → List ℕ
image_leaves k m before = cond m.running before (write_leaves (imaged k m) before)

-- the state between two instructions: the settled registers, the counter, the cause and the count
abbrev pub between : Machine → Snapshot
between m = record { registers = m.pipe.scheme.settled; counter = m.pipe.next; cause = m.cause; count = m.pipe.count }

-- take_up

-- some words go to the registers from r on, each as place does it
abbrev pub placed_from : Meaning → ℕ → List ℕ → Meaning
placed_from m r [] = m
placed_from m r (w ∷ ws) = placed_from (place_leaves m r w) (r + 1) ws

abbrev pub take_up_refusal : Machine → List ℕ → Option Refusal
take_up_refusal m image = cond m.running (Some refusal.Running) (result_err (read_words image))

-- registers, counter, cause and count are those of an image; all else stays
abbrev pub taken_up : Machine → Snapshot → Machine
taken_up m s = record { pipe = record { scheme = placed_from m.pipe.scheme 0 s.registers; stages = m.pipe.stages; next = s.counter; count = s.count }; delays = m.delays; program_length = m.program_length; data_length = m.data_length; cycles = m.cycles; running = m.running; requested = m.requested; cause = s.cause }

abbrev pub take_up_by : Machine → Result Snapshot Refusal → Machine
take_up_by m (Ok s) = taken_up m s
take_up_by m (Err x) = m

abbrev pub take_up_leaves : Machine → List ℕ → Machine
take_up_leaves m image = cond m.running m (take_up_by m (read_words image))
