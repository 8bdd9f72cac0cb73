-- The registers that a word names.
use Rattle.std.proofs.Common.{◌≡◌, ℕ, ◌<◌, Bool, true, false, cond, Ok, Err, Result, ap, arith}
use Rattle.isa.specs.declared.words.Kind.{Kind}
use Rattle.isa.specs.declared.refusal.Refusal.{Refusal}
use Rattle.isa.specs.declared.refusal.Refusal.TheVariants.{NotAnInstruction}
use Rattle.isa.specs.Words.{decoded, legal, kind_of, kind_bits, d_bits, a_bits, b_bits, n_bits}

pub fields_small : (w : ℕ) (i : Kind × ℕ × ℕ × ℕ × ℕ) → Ok i ≡ decoded w → (i.1 < 16) × (i.2 < 16) × (i.3 < 16)
fields_small w i e = by (legal w) e
  where
    by : (b : Bool) → ◌≡◌ {A = Result (Kind × ℕ × ℕ × ℕ × ℕ) Refusal} (Ok i) (cond b (Ok (kind_of (kind_bits w), d_bits w, a_bits w, b_bits w, n_bits w)) (Err NotAnInstruction)) → (i.1 < 16) × (i.2 < 16) × (i.3 < 16)
    by true h =
        let q : ◌≡◌ {A = Kind × ℕ × ℕ × ℕ × ℕ} i (kind_of (kind_bits w), d_bits w, a_bits w, b_bits w, n_bits w) = cc in
        let d : i.1 ≡ d_bits w = ap (λ (x : Kind × ℕ × ℕ × ℕ × ℕ). x.1) q in
        let a : i.2 ≡ a_bits w = ap (λ (x : Kind × ℕ × ℕ × ℕ × ℕ). x.2) q in
        let b : i.3 ≡ b_bits w = ap (λ (x : Kind × ℕ × ℕ × ℕ × ℕ). x.3) q in
        (omega arith, omega arith, omega arith)
    by false h = grind arith
