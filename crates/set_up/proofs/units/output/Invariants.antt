use Rattle.std.proofs.Common.{◌≡◌, ◌+◌, length, take}
use Rattle.set_up.specs.Outputs.{outputs_of}
use Rattle.set_up.proofs.units.output.Given as goal

abbrev pub invariant-loop-unit : goal.invariant-loop-unit
invariant-loop-unit g l = l.left + length (outputs_of (take l.unit (g.R.Rig.model l.rig))) ≡ l.number
