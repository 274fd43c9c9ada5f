-- Refusals of a rig by their numbers. They are of layer 4; a is the unit, b the port or place, 0 where neither was asked for.
use Rattle.std.specs.Prelude.{ℕ}
use Rattle.rig.specs.declared.cause.Cause.{Cause}
use Rattle.rig.specs.declared.cause.Cause.TheVariants.{NoSuch, StepRange, Loose, Filled, Empty}
use Rattle.rig.specs.declared.cause.Target.{Target}
use Rattle.rig.specs.declared.cause.Target.TheVariants.{Whole, Port, Place}
use Rattle.rig.specs.declared.cause.RigFault.{RigFault}
use Rattle.refusal.specs.declared.Code.{Code}

abbrev pub cause_number : Cause → ℕ
cause_number NoSuch = 1
cause_number StepRange = 2
cause_number Loose = 3
cause_number Filled = 4
cause_number Empty = 5

abbrev pub target_number : Target → ℕ
target_number Whole = 0
target_number (Port port) = port
target_number (Place place) = place

abbrev pub code_of : RigFault → Code
code_of f = record { number = cause_number f.cause; layer = 4; a = f.unit; b = target_number f.target }
