-- The settings of the core are fit and sane.
use Rattle.std.proofs.Common.{◌≡◌, ℕ, zero, suc, ◌<◌, ◌≤◌, Bool, true, false, cond, ltb, leb, List, [], ◌∷◌, length, get_or, Ok, Err, arith}
use Rattle.std.proofs.lemmas.Bool.{and_parts, leb-true}
use Rattle.isa.specs.declared.fault.Fault.TheVariants as fault
use Rattle.isa.specs.declared.refusal.Refusal.TheVariants as refusal
use Rattle.isa.specs.declared.unit.ExecUnit.{ExecUnit}
use Rattle.isa.specs.declared.unit.ExecUnit.TheVariants as unit
use Rattle.isa.specs.declared.words.Kind.{Kind}
use Rattle.isa.specs.declared.words.Kind.TheVariants as kind
use Rattle.isa.specs.Numbers.{unit_number}
use Rattle.isa.specs.Words.{decoded, legal, kind_of, kind_bits, d_bits, a_bits, b_bits, n_bits}
use Rattle.isa.specs.Table.{halt, fetched, instruction, row}
use Rattle.recovery.specs.declared.Timing.{Timing}
use Rattle.pickcore.specs.Limits.{one_to_sixteen, delays_fit}
use Rattle.pickcore.specs.Model.{setting}
use Rattle.precision.specs.Fit.{Fit, longest_of, Named}
use Rattle.precision.specs.Results.{SettingsAreFit}

-- the delays

unit_below : (u : ExecUnit) → unit_number u < 4
unit_below unit.Short = omega arith
unit_below unit.Multiply = omega arith
unit_below unit.Divide = omega arith
unit_below unit.Memory = omega arith

record Bounds (d longest : ℕ) : Type 0 where
  least : 1 ≤ d
  most : d ≤ longest

bounds : (ds : List ℕ) (i : ℕ) → delays_fit ds ≡ true → i < length ds → Bounds (get_or ds i 0) (longest_of ds)
bounds [] i f l = absurd (omega arith)
bounds (d ∷ ds) zero f l =
    let p = and_parts (one_to_sixteen d) (delays_fit ds) f in
    let q = and_parts (leb 1 d) (leb d 16) p.0 in
    record { least = leb-true 1 d q.0; most = omega arith }
bounds (d ∷ ds) (suc i) f l =
    let p = and_parts (one_to_sixteen d) (delays_fit ds) f in
    let rest = bounds ds i p.1 (omega arith) in
    record { least = rest.least; most = omega arith }

longest_short : (ds : List ℕ) → delays_fit ds ≡ true → longest_of ds ≤ 16
longest_short [] f = omega arith
longest_short (d ∷ ds) f =
    let p = and_parts (one_to_sixteen d) (delays_fit ds) f in
    let q = and_parts (leb 1 d) (leb d 16) p.0 in
    let here = leb-true d 16 q.1 in
    let rest = longest_short ds p.1 in
    omega arith

setting_fit : (timing : Timing) (delays program : List ℕ) → length delays ≡ 4 → delays_fit delays ≡ true → Fit (setting timing delays program) (longest_of delays)
setting_fit timing delays program l f = record {
  least = λ u. (of u).least;
  most = λ u. (of u).most;
  short = longest_short delays f;
}
  where
    of : (u : ExecUnit) → Bounds (get_or delays (unit_number u) 0) (longest_of delays)
    of u = let h = unit_below u in bounds delays (unit_number u) f (omega arith)

-- the table: four bits name a register

row_named : (k : Kind) (d a b n : ℕ) → d < 16 → a < 16 → b < 16 → Named (row k d a b n)
row_named kind.Stop d a b n p q r = tt
row_named kind.Set d a b n p q r = (p, tt)
row_named kind.Add d a b n p q r = (p, (q, (r, tt)))
row_named kind.Subtract d a b n p q r = (p, (q, (r, tt)))
row_named kind.ExclusiveOr d a b n p q r = (p, (q, (r, tt)))
row_named kind.Multiply d a b n p q r = (p, (q, (r, tt)))
row_named kind.Divide d a b n p q r = (p, (q, (r, tt)))
row_named kind.CheckedAdd d a b n p q r = (p, (q, (r, tt)))
row_named kind.Load d a b n p q r = (p, (q, tt))
row_named kind.Store d a b n p q r = (q, (r, tt))
row_named kind.BranchEqual d a b n p q r = (q, (r, tt))
row_named kind.BranchUnequal d a b n p q r = (q, (r, tt))

word_named : (w : ℕ) → Named (instruction (decoded w))
word_named w = pick (legal w)
  where
    pick : (b : Bool) → Named (instruction (cond b (Ok (kind_of (kind_bits w), d_bits w, a_bits w, b_bits w, n_bits w)) (Err refusal.NotAnInstruction)))
    pick true = row_named (kind_of (kind_bits w)) (d_bits w) (a_bits w) (b_bits w) (n_bits w) (omega arith) (omega arith) (omega arith)
    pick false = tt

fetched_named : (program : List ℕ) (c : ℕ) → Named (fetched program c)
fetched_named program c = pick (ltb c (length program))
  where
    pick : (b : Bool) → Named (cond b (instruction (decoded (get_or program c 0))) (halt fault.PastEnd))
    pick true = word_named (get_or program c 0)
    pick false = tt

pub settings_are_fit : SettingsAreFit
settings_are_fit timing delays program l f = (setting_fit timing delays program l f, fetched_named program)
