-- The number of every fault, cause, hold and refusal.
use Rattle.std.specs.Prelude.{◌≡◌, ℕ, ◌≤◌, ◌<◌, Result, MatchResult}
use Rattle.second.specs.declared.reasons.Fault.{Fault}
use Rattle.second.specs.declared.reasons.Fault.TheVariants as fault
use Rattle.second.specs.declared.reasons.Cause.{Cause}
use Rattle.second.specs.declared.reasons.Cause.TheVariants as cause
use Rattle.second.specs.declared.reasons.NoCause.{NoCause}
use Rattle.second.specs.declared.reasons.Hold.{Hold}
use Rattle.second.specs.declared.reasons.Hold.TheVariants as hold
use Rattle.second.specs.declared.reasons.Refusal.{Refusal}
use Rattle.second.specs.declared.reasons.Refusal.TheVariants as refusal

-- faults are the causes 1 to 6
abbrev pub fault_number : Fault → ℕ
fault_number fault.DivideByZero = 1
fault_number fault.Overflow = 2
fault_number fault.Address = 3
fault_number fault.Illegal = 4
fault_number fault.PastEnd = 5
fault_number fault.Stop = 6

-- why a core stopped
abbrev pub cause_number : Cause → ℕ
cause_number (cause.Fault f) = fault_number f
cause_number cause.Request = 7
cause_number cause.Cut = 8

-- the result is the cause with this number, or an error where the number is not from 1 to 8
abbrev pub ReadsCause : ℕ → Result Cause NoCause → Type 0
ReadsCause number r = MatchResult r (λ c. cause_number c ≡ number) (λ _. 1 ≤ number → 8 < number)

-- why a cycle issues nothing
abbrev pub hold_number : Hold → ℕ
hold_number hold.Request = 1
hold_number hold.Flight = 2
hold_number hold.Source = 3
hold_number hold.Stage = 4
hold_number hold.Destination = 5
hold_number hold.Capacity = 6

-- why a call is declined
abbrev pub refusal_number : Refusal → ℕ
refusal_number refusal.Delay = 1
refusal_number refusal.Capacity = 2
refusal_number refusal.ProgramLength = 3
refusal_number refusal.DataLength = 4
refusal_number refusal.Stopped = 5
refusal_number refusal.Running = 6
refusal_number refusal.Register = 7
refusal_number refusal.Counter = 8
refusal_number refusal.LentLength = 9
refusal_number refusal.Stretch = 10
refusal_number refusal.Buffer = 11
refusal_number refusal.ImageLength = 12
refusal_number (refusal.ImageWord i) = 13
