-- What is written into a part of a list.
use Rattle.std.proofs.Common.{◌≡◌, ℕ, ◌≤◌, min, Bool, true, false, leb, List, [], ◌∷◌, ◌++◌, length, take, drop, Some, None, Err, Option, Result, sym, refl, ap, ◌∙◌, subst, append_assoc, arith}
use Rattle.std.proofs.lemmas.List.{take_all, drop_all, length-take-le, take-append-drop, drop-append-le}
use Rattle.std.proofs.lemmas.Bool.{leb-true, leb-false}
use Rattle.isa.specs.declared.refusal.Refusal.{Refusal}
use Rattle.recovery.specs.declared.Timing.{Timing}
use Rattle.pickcore.specs.declared.record.CycleRecord.{CycleRecord}
use Rattle.pickcore.specs.Calls.{Machine, step_refusal, Ran, RunsBy, Runs}
use Rattle.precision.specs.Life.{other}
use Rattle.jobs.specs.declared.call.Answer.TheVariants as answer
use Rattle.jobs.specs.Play.{event, simple, row_events, RunBy, RanInto, Filled}

-- the lesser of a limit and what there is
pub take_lesser : {X : Type 0} (xs : List X) (n m : ℕ) → m ≡ min n (length xs) → take m xs ≡ take n xs
take_lesser xs n m e = by (leb n (length xs)) refl
  where
    by : (b : Bool) → leb n (length xs) ≡ b → take m xs ≡ take n xs
    by true t = let h = leb-true n (length xs) t in let f : m ≡ n = omega arith in ap (λ k. take k xs) f
    by false t = let h = leb-false n (length xs) t in take_all m xs (omega arith) ∙ sym (take_all n xs (omega arith))

pub drop_lesser : {X : Type 0} (xs : List X) (n m : ℕ) → m ≡ min n (length xs) → drop m xs ≡ drop n xs
drop_lesser xs n m e = by (leb n (length xs)) refl
  where
    by : (b : Bool) → leb n (length xs) ≡ b → drop m xs ≡ drop n xs
    by true t = let h = leb-true n (length xs) t in let f : m ≡ n = omega arith in ap (λ k. drop k xs) f
    by false t = let h = leb-false n (length xs) t in drop_all m xs (omega arith) ∙ sym (drop_all n xs (omega arith))

-- nothing
pub filled_none : {X : Type 0} (before : List X) → Filled before [] before
filled_none before = refl

-- some things in the first c of k places, where the others stay
pub filled_part : {X : Type 0} (before after : List X) (k c : ℕ) → c ≤ k → k ≤ length before → length after ≡ k
    → drop c after ≡ drop c (take k before) → Filled before (take c after) (after ++ drop k before)
filled_part before after k c l m n e =
    let lt : length (take k before) ≡ k = length-take-le k before m in
    let lc : length (take c after) ≡ c = length-take-le c after (omega arith) in
    let whole : drop c (take k before) ++ drop k before ≡ drop c before =
    sym (drop-append-le c (take k before) (drop k before) (omega arith)) ∙ ap (drop c) (take-append-drop k before) in
    sym (ap (λ ys. ys ++ drop k before) (take-append-drop c after)) ∙ append_assoc (take c after) (drop c after) (drop k before)
    ∙ ap (λ ys. take c after ++ ys) (ap (λ ys. ys ++ drop k before) e ∙ (whole ∙ ap (λ j. drop j before) (sym lc)))

-- a run into the first k places
pub ran_into : (k : Timing) (program : List ℕ) (before : List CycleRecord) (limit most : ℕ) (m : Machine) (ws : List ℕ) (r : Result ℕ Refusal) (after : List CycleRecord) (n : Machine) (vs : List ℕ)
    → most ≡ min limit (length before) → length after ≡ most → Runs k program m ws (take most before) r after n vs
    → RanInto k program before limit m ws r (after ++ drop most before) n vs
ran_into k program before limit most m ws r after n vs e la runs = by (step_refusal m (length program) (length ws)) refl runs
  where
    places : take most before ≡ take limit before
    places = take_lesser before limit most e

    by : (o : Option Refusal) → step_refusal m (length program) (length ws) ≡ o → RunsBy k program m ws (take most before) o r after n vs
        → RanInto k program before limit m ws r (after ++ drop most before) n vs
    by (Some x) is h = record {
      records = [];
      events = event other m n vs ∷ [];
      is = subst (λ (o : Option Refusal). RunBy k program (take limit before) m ws o (record { answer = answer.Ran r; records = []; written = []; events = event other m n vs ∷ []; machine = n; words = vs })) (sym is) (refused h.0 h.2 h.3);
      filled = ap (λ ys. ys ++ drop most before) h.1 ∙ take-append-drop most before;
    }
      where
        refused : r ≡ Err x → n ≡ m → vs ≡ ws → record { answer = answer.Ran r; records = []; written = []; events = event other m n vs ∷ []; machine = n; words = vs } ≡ simple m ws (answer.Ran (Err x)) other m
        refused a b d =
            ap (λ (q : Result ℕ Refusal). record { answer = answer.Ran q; records = []; written = []; events = event other m n vs ∷ []; machine = n; words = vs }) a
            ∙ (ap (λ (o : Machine). record { answer = answer.Ran (Err x); records = []; written = []; events = event other m o vs ∷ []; machine = o; words = vs }) b
            ∙ ap (λ us. record { answer = answer.Ran (Err x); records = []; written = []; events = event other m m us ∷ []; machine = m; words = us }) d)
    by None is h =
        let c = h.0 in
        let ran : Ran k program m ws (take limit before) c after n vs = subst (λ bs. Ran k program m ws bs c after n vs) places h.2 in
        let few = h.2.few in
        let lt = length-take-le most before (omega arith) in
        record {
          records = take c after;
          events = row_events ran.rows;
          is = subst (λ (o : Option Refusal). RunBy k program (take limit before) m ws o (record { answer = answer.Ran r; records = take c after; written = []; events = row_events ran.rows; machine = n; words = vs })) (sym is)
              (c, after, n, vs, ran, la ∙ (sym lt ∙ ap length places), ap (λ (q : Result ℕ Refusal). record { answer = answer.Ran q; records = take c after; written = []; events = row_events ran.rows; machine = n; words = vs }) h.1);
          filled = filled_part before after most c (omega arith) (omega arith) la h.2.kept;
        }
