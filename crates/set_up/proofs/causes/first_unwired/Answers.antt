use Rattle.std.proofs.Common.{arith}
use Rattle.set_up.specs.Causes.{IsUnwired}
use Rattle.set_up.proofs.Within.{unit_done}
use Rattle.set_up.proofs.Few.{unwired_within}
use Rattle.set_up.proofs.causes.first_unwired.Goals as goal

pub loop-unit-preserved : goal.loop-unit-preserved
loop-unit-preserved g c =
    let us = g.R.Rig.model c.args.rig.now in
    unit_done (IsUnwired us c.args.wiring.now) c.loop-unit.unit (λ to l. (unwired_within us (g.met.R.Rig.sound c.args.rig.now) c.args.wiring.now to l).1) c.loop-unit.invariant
    (λ to e lt. c.loop-port.invariant.1 to e (omega arith))

pub returns : goal.returns
returns g c = λ to l.
    let inside = unwired_within (g.R.Rig.model c.args.rig.now) (g.met.R.Rig.sound c.args.rig.now) c.args.wiring.now to l in
    c.loop-unit.invariant to (omega arith) l
