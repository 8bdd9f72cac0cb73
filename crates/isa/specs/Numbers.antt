-- The number of every kind, fault, cause, refusal and unit.
use Rattle.std.specs.Prelude.{ℕ, cond, Some, None, Ok, Err, Option, Result, ◌==◌}
use Rattle.isa.specs.declared.words.Kind.{Kind}
use Rattle.isa.specs.declared.words.Kind.TheVariants as kind
use Rattle.isa.specs.declared.fault.Fault.{Fault}
use Rattle.isa.specs.declared.fault.Fault.TheVariants as fault
use Rattle.isa.specs.declared.fault.Cause.{Cause}
use Rattle.isa.specs.declared.fault.Cause.TheVariants as cause
use Rattle.isa.specs.declared.fault.UnknownCause.{UnknownCause}
use Rattle.isa.specs.declared.refusal.Refusal.{Refusal}
use Rattle.isa.specs.declared.refusal.Refusal.TheVariants as refusal
use Rattle.isa.specs.declared.unit.ExecUnit.{ExecUnit}
use Rattle.isa.specs.declared.unit.ExecUnit.TheVariants as unit

-- the kind in the top four bits of a word
abbrev pub kind_number : Kind → ℕ
kind_number kind.Stop = 0
kind_number kind.Set = 1
kind_number kind.Add = 2
kind_number kind.Subtract = 3
kind_number kind.ExclusiveOr = 4
kind_number kind.Multiply = 5
kind_number kind.Divide = 6
kind_number kind.CheckedAdd = 7
kind_number kind.Load = 8
kind_number kind.Store = 9
kind_number kind.BranchEqual = 10
kind_number kind.BranchUnequal = 11

-- faults are the causes 1 to 6
abbrev pub fault_number : Fault → ℕ
fault_number fault.DivideByZero = 1
fault_number fault.Overflow = 2
fault_number fault.Address = 3
fault_number fault.Illegal = 4
fault_number fault.PastEnd = 5
fault_number fault.Stop = 6

-- why a core stopped
abbrev pub cause_number : Cause → ℕ
cause_number (cause.Fault f) = fault_number f
cause_number cause.Request = 7
cause_number cause.Cut = 8

-- the cause of a number; no cause has a number outside 1 to 8
abbrev pub cause_numbered : ℕ → Result Cause UnknownCause
cause_numbered n =
    cond (n == 1) (Ok (cause.Fault fault.DivideByZero))
    (cond (n == 2) (Ok (cause.Fault fault.Overflow))
    (cond (n == 3) (Ok (cause.Fault fault.Address))
    (cond (n == 4) (Ok (cause.Fault fault.Illegal))
    (cond (n == 5) (Ok (cause.Fault fault.PastEnd))
    (cond (n == 6) (Ok (cause.Fault fault.Stop))
    (cond (n == 7) (Ok cause.Request)
    (cond (n == 8) (Ok cause.Cut) (Err (record { 0 = n })))))))))

-- a cause, or 0 where there is none
abbrev pub cause_or_0 : Option Cause → ℕ
cause_or_0 None = 0
cause_or_0 (Some c) = cause_number c

-- why a call is declined
abbrev pub refusal_number : Refusal → ℕ
refusal_number refusal.Delay = 1
refusal_number refusal.Capacity = 2
refusal_number refusal.Program = 3
refusal_number refusal.Data = 4
refusal_number refusal.Stopped = 5
refusal_number refusal.Running = 6
refusal_number refusal.Register = 7
refusal_number refusal.Counter = 8
refusal_number refusal.Length = 9
refusal_number refusal.Stretch = 10
refusal_number refusal.Buffer = 11
refusal_number refusal.ImageLength = 12
refusal_number (refusal.ImageWord i) = 13
refusal_number refusal.NotAnInstruction = 14

-- a unit's place in a list of delays
abbrev pub unit_number : ExecUnit → ℕ
unit_number unit.Short = 0
unit_number unit.Multiply = 1
unit_number unit.Divide = 2
unit_number unit.Memory = 3
