use Rattle.std.proofs.Common.{arith}
use Rattle.set_up.proofs.Within.{none_used}
use Rattle.set_up.proofs.causes.first_in_use.Goals as goal

pub returns : goal.returns
returns g c = none_used (g.R.Rig.model c.args.rig.now) (λ u lt. c.loop-unit.invariant u (omega arith))
