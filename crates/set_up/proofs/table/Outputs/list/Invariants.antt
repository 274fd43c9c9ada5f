use Rattle.std.proofs.Common.{take}
use Rattle.set_up.specs.Outputs.{outputs_of}
use Rattle.set_up.specs.Listing.{Lists}
use Rattle.set_up.proofs.table.Outputs.list.Given as goal

abbrev pub invariant-loop-unit : goal.invariant-loop-unit
invariant-loop-unit g l = Lists (g.R.Rig.model l.rig) (outputs_of (take l.unit (g.R.Rig.model l.rig))) l.outputs
