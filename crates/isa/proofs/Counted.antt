-- The plain machine's steps, counted.
use Rattle.std.proofs.Common.{◌≡◌, ℕ, suc, ◌+◌, ◌-◌, ◌<◌, List, Ok, Err, Result, sym, ap, ◌∙◌, arith}
use Rattle.isa.specs.declared.fault.Fault.{Fault}
use Rattle.isa.specs.Plain.{Plain, Outcome, one_more, go_on, stepped, ran}
use Rattle.isa.specs.Table.{verdict, value_or}

-- so many steps before
abbrev pub plus : ℕ → Outcome → Outcome
plus n o = record { taken = n + o.taken; last = o.last; fault = o.fault }

plus_one : (n : ℕ) (o : Outcome) → plus (n + 1) o ≡ plus n (one_more o)
plus_one n o = let e : n + 1 + o.taken ≡ n + (o.taken + 1) = omega arith in ap (λ t. record { taken = t; last = o.last; fault = o.fault }) e

-- what is known of a step by its answer and by what it leaves
module _ (program : List ℕ) (p q : Plain) (leaves : q ≡ value_or p (stepped program p)) where
  next : Ok tt ≡ verdict (stepped program p) → stepped program p ≡ Ok q
  next a = go (stepped program p) leaves a
    where
      go : (r : Result Plain Fault) → q ≡ value_or p r → Ok tt ≡ verdict r → r ≡ Ok q
      go (Ok x) e h = ap Ok (sym e)
      go (Err f) e h = let z : ◌≡◌ {A = ℕ} 0 1 = cc in absurd (omega arith)

  none : (f : Fault) → Err f ≡ verdict (stepped program p) → (stepped program p ≡ Err f) × (q ≡ p)
  none f a = go (stepped program p) leaves a
    where
      go : (r : Result Plain Fault) → q ≡ value_or p r → Err f ≡ verdict r → (r ≡ Err f) × (q ≡ p)
      go (Ok x) e h = let z : ◌≡◌ {A = ℕ} 0 1 = cc in absurd (omega arith)
      go (Err g) e h = let k : f ≡ g = cc in (ap Err (sym k), e)

  pub ran_more : (i most : ℕ) (all : Outcome) → i < most → Ok tt ≡ verdict (stepped program p) → plus i (ran program (most - i) p) ≡ all → plus (i + 1) (ran program (most - (i + 1)) q) ≡ all
  ran_more i most all l a h =
      let m : most - i ≡ suc (most - (i + 1)) = omega arith in
      plus_one i (ran program (most - (i + 1)) q)
      ∙ (sym (ap (λ r. plus i (go_on p (ran program (most - (i + 1))) r)) (next a)) ∙ (sym (ap (λ k. plus i (ran program k p)) m) ∙ h))

  pub ran_fault : (f : Fault) (i most : ℕ) (all : Outcome) → i < most → Err f ≡ verdict (stepped program p) → plus i (ran program (most - i) p) ≡ all → record { taken = i; last = q; fault = Err f } ≡ all
  ran_fault f i most all l a h =
      let m : most - i ≡ suc (most - (i + 1)) = omega arith in
      let n = none f a in
      let e : i ≡ i + 0 = omega arith in
      ap (λ t. record { taken = t; last = q; fault = Err f }) e
      ∙ (ap (λ x. record { taken = i + 0; last = x; fault = Err f }) n.1
      ∙ (sym (ap (λ r. plus i (go_on p (ran program (most - (i + 1))) r)) n.0) ∙ (sym (ap (λ k. plus i (ran program k p)) m) ∙ h)))

pub ran_all : (program : List ℕ) (p : Plain) (i most : ℕ) (all : Outcome) → i ≡ most → plus i (ran program (most - i) p) ≡ all → record { taken = most; last = p; fault = Ok tt } ≡ all
ran_all program p i most all e h =
    let z : most - i ≡ 0 = omega arith in
    let t : most ≡ i + 0 = omega arith in
    ap (λ n. record { taken = n; last = p; fault = Ok tt }) t ∙ (sym (ap (λ k. plus i (ran program k p)) z) ∙ h)
