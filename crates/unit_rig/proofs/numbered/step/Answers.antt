use Rattle.std.proofs.Common.{rules, refl}
use Rattle.rig.specs.Calls.{step}
use Rattle.unit_rig.proofs.numbered.step.Goals as goal

pub returns : goal.returns
returns g c = c.lend.ensures (step c.args.h) refl (λ x r y called. search rules)
