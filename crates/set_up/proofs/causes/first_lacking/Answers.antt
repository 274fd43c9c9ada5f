use Rattle.std.proofs.Common.{arith}
use Rattle.set_up.specs.Causes.{IsLacking}
use Rattle.set_up.proofs.Within.{unit_done, lacking_within}
use Rattle.set_up.proofs.causes.first_lacking.Goals as goal

pub loop-unit-preserved : goal.loop-unit-preserved
loop-unit-preserved g c =
    let us = g.R.Rig.model c.args.rig.now in
    unit_done (IsLacking us c.args.wiring.now) c.loop-unit.unit (λ to l. (lacking_within us c.args.wiring.now to l).1) c.loop-unit.invariant
    (λ to e lt. c.loop-port.invariant.1 to e (omega arith))

pub returns : goal.returns
returns g c = λ to l.
    let inside = lacking_within (g.R.Rig.model c.args.rig.now) c.args.wiring.now to l in
    c.loop-unit.invariant to (omega arith) l
