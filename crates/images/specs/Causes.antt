-- The cause of a number in an image, the other way round from the number of a cause.
use Rattle.std.specs.Prelude.{ℕ, cond, Some, None, Ok, Err, Option, Result, ◌==◌}
use Rattle.isa.specs.declared.fault.Cause.{Cause}
use Rattle.isa.specs.declared.fault.UnknownCause.{UnknownCause}
use Rattle.isa.specs.Numbers.{cause_numbered}

abbrev pub some_cause : Result Cause UnknownCause → Option (Option Cause)
some_cause (Ok c) = Some (Some c)
some_cause (Err e) = None

-- 0 is no cause, 1 to 8 are causes, and above is nothing
abbrev pub cause_of : ℕ → Option (Option Cause)
cause_of n = cond (n == 0) (Some None) (some_cause (cause_numbered n))
