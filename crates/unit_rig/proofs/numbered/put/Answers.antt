use Rattle.std.proofs.Common.{rules, refl}
use Rattle.rig.specs.Calls.{put}
use Rattle.unit_rig.proofs.numbered.put.Goals as goal

pub returns : goal.returns
returns g c = c.lend.ensures (put c.args.port c.args.value) refl (λ x r y called. search rules)
