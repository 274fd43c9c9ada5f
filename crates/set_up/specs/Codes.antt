-- Refusals of a check by their numbers. They are of layer 2; a and b are a unit and a port, 0 where they mean nothing.
use Rattle.std.specs.Prelude.{ℕ}
use Rattle.set_up.specs.declared.fault.CheckFault.{CheckFault}
use Rattle.set_up.specs.declared.fault.CheckFault.TheVariants.{ListLength, Size, InUse, Lacking, Unwired, Circle}
use Rattle.refusal.specs.declared.Code.{Code}

-- the numbers of a refusal
abbrev pub code_of : CheckFault → Code
code_of ListLength = record { number = 25; layer = 2; a = 0; b = 0 }
code_of Size = record { number = 23; layer = 2; a = 0; b = 0 }
code_of (InUse unit) = record { number = 22; layer = 2; a = unit; b = 0 }
code_of (Lacking to) = record { number = 24; layer = 2; a = to.unit; b = to.port }
code_of (Unwired to) = record { number = 20; layer = 2; a = to.unit; b = to.port }
code_of (Circle first count) = record { number = 21; layer = 2; a = first.unit; b = first.port }

-- how many outputs the circle has that a refusal shows
abbrev pub circle_count : CheckFault → ℕ
circle_count ListLength = 0
circle_count Size = 0
circle_count (InUse unit) = 0
circle_count (Lacking to) = 0
circle_count (Unwired to) = 0
circle_count (Circle first count) = count
