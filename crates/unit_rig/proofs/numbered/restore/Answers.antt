use Rattle.std.proofs.Common.{rules, refl}
use Rattle.rig.specs.Calls.{restore}
use Rattle.unit_rig.proofs.numbered.restore.Goals as goal

pub returns : goal.returns
returns g c = c.lend.ensures (restore c.args.place) refl (λ x r y called. search rules)
