-- The number of a cause that may be missing.
use Rattle.std.specs.Prelude.{◌≡◌, ℕ, Some, None, Option, MatchOption}
use Rattle.isa.specs.declared.fault.Cause.{Cause}
use Rattle.isa.specs.Numbers.{cause_number, cause_or_0}

pub cause_or_0_by : (o : Option Cause) (n : ℕ) → MatchOption o (n ≡ 0) (λ x. n ≡ cause_number x) → n ≡ cause_or_0 o
cause_or_0_by None n h = h
cause_or_0_by (Some c) n h = h
