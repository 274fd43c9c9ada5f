use Rattle.std.proofs.Common.{take}
use Rattle.set_up.specs.Outputs.{outputs_of}
use Rattle.set_up.proofs.Listed.{room, unit_listed}
use Rattle.set_up.proofs.table.Outputs.list.Goals as goal

pub add_unit-requires : goal.add_unit-requires
add_unit-requires g c = room (g.R.Rig.model c.args.rig.now) c.loop-unit.unit c.loop-unit.outputs c.requires.outputs c.loop-unit.invariant

pub loop-unit-preserved : goal.loop-unit-preserved
loop-unit-preserved g c =
    let us = g.R.Rig.model c.args.rig.now in
    unit_listed us c.loop-unit.unit _ (c.add_unit.ensures (outputs_of (take c.loop-unit.unit us)) c.loop-unit.invariant)
