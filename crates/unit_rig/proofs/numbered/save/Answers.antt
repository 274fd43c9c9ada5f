use Rattle.std.proofs.Common.{rules, refl}
use Rattle.rig.specs.Calls.{save}
use Rattle.unit_rig.proofs.numbered.save.Goals as goal

pub returns : goal.returns
returns g c = c.lend.ensures (save c.args.place) refl (λ x r y called. search rules)
