-- Lists of calls: what is kept through a life is kept through a list, and what is answered at a report is of the core.
use Rattle.std.proofs.Common.{◌≡◌, ℕ, Bool, true, false, cond, not, List, Ok, Err, refl, sym, ap, ◌∙◌, subst}
use Rattle.std.proofs.lemmas.Bool.{and_parts}
use Rattle.isa.specs.declared.refusal.Refusal.TheVariants as refusal
use Rattle.isa.specs.Table.{fetched, value_or}
use Rattle.isa.specs.Plain.{Plain}
use Rattle.recovery.specs.declared.Timing.{Timing}
use Rattle.pickcore.specs.declared.record.Report.{Report}
use Rattle.pickcore.specs.Calls.{Machine, none, more}
use Rattle.precision.specs.Steps.{steps}
use Rattle.precision.specs.Precise as precise
use Rattle.precision.specs.Precise.{reported, followed}
use Rattle.precision.specs.Lists.{Along, loads, steps_on, declines, requests, cuts, amends, resumes, Agrees, StepsAgree, CutsAgree, NeverStandsStill, RunsAreSteps}
use Rattle.precision.proofs.Lives.{Idle, Kept, bounded, idle_from, step_on, step_off, cut_on, request_on, amend_on, resume_on, load_on}

off_when_not : (b : Bool) → not b ≡ true → b ≡ false
off_when_not true e = cc
off_when_not false e = refl

-- what `report` answers of a stopped core
report_of : Machine → Report
report_of n = record { cause = n.cause; counter = n.pipe.next; count = n.pipe.count }

module _ (k : Timing) (program : List ℕ) where
  -- a report whose answers agree is that of a core that agrees
  agrees : (p : Plain) (ws : List ℕ) (z : ℕ) (m n : Machine) → Kept k program (followed program p m n) ws z n → reported m n ≡ true → precise.Agrees k program p ws n → Agrees program p ws n
  unfolding report_of
  agrees p ws z m n h e a =
      let off : n.running ≡ false = off_when_not n.running (and_parts m.running (not n.running) e).1 in
      let is : Ok (report_of n) ≡ Ok a.report = sym (ap (λ b. cond b (Err refusal.Running) (Ok (report_of n))) off) ∙ a.answers in
      let same : report_of n ≡ a.report = cc in
      let ran : steps (fetched program) n.pipe.count p ≡ Ok a.now = ap (λ (r : Report). steps (fetched program) r.count p) same ∙ a.ran in
      let there : followed program p m n ≡ a.now = ap (λ b. cond b (value_or p (steps (fetched program) n.pipe.count p)) p) e ∙ ap (value_or p) ran in
      let idle : Idle a.now ws n.pipe = subst (λ y. Idle y ws n.pipe) there (idle_from k program (followed program p m n) ws z n off h) in
      record {
        now = a.now;
        ran = ran;
        registers = idle.registers;
        words = a.words;
        counter = a.counter ∙ sym (ap (λ (r : Report). r.counter) same);
        fault = λ f c. a.fault f (sym (ap (λ (r : Report). r.cause) same) ∙ c);
      }

  along_kept : {p : Plain} {ws : List ℕ} {z : ℕ} {m : Machine} → Along k program p ws z m → Kept k program p ws z m
  along_kept (loads m ds c pl dl ws u e) = load_on k program m ds c pl dl ws u e
  along_kept (steps_on {p = p} {ws = ws} {z = z} {m = m} s r a st e) = (step_on k program p ws z m s r (along_kept a) st e).0
  along_kept (declines {p = p} {ws = ws} {z = z} {m = m} lent words s x a st e) = step_off k program p ws z m lent words s x (along_kept a) st e
  along_kept (requests {p = p} {ws = ws} {z = z} {m = m} a) = request_on k program p ws z m (along_kept a)
  along_kept (cuts {p = p} {ws = ws} {z = z} {m = m} a) = (cut_on k program p ws z m (along_kept a)).0
  along_kept (amends {p = p} {ws = ws} {z = z} {m = m} r w a) = amend_on k program p ws z m r w (along_kept a)
  along_kept (resumes {p = p} {ws = ws} {z = z} {m = m} c a) = resume_on k program p ws z m c (along_kept a)

pub steps_agree : StepsAgree
steps_agree k program p ws z m s r a st e =
    let on = step_on k program p ws z m s r (along_kept k program a) st e in
    λ rep. agrees k program p s.words (precise.quiet z m s.machine) m s.machine on.0 rep (on.1 rep)

pub cuts_agree : CutsAgree
cuts_agree k program p ws z m a =
    let on = cut_on k program p ws z m (along_kept k program a) in
    λ rep. agrees k program p ws z m _ on.0 rep (on.1 rep)

pub never_stands_still : NeverStandsStill
never_stands_still k program p ws z m a = bounded k program p ws z m m.running (along_kept k program a).life

pub runs_are_steps : RunsAreSteps
runs_are_steps k program p ws z m rs n vs a none = (p, z, a)
runs_are_steps k program p ws z m rs n vs a (more {rs = qs} {n = o} {o = n'} {vs = us} {us = us'} r rows st) =
    let h = runs_are_steps k program p ws z m qs o us a rows in
    (_, _, steps_on (record { answer = Ok r; machine = n; words = vs }) r h.2 st refl)
