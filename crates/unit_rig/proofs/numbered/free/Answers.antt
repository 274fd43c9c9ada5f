use Rattle.std.proofs.Common.{rules, refl}
use Rattle.rig.specs.Calls.{free}
use Rattle.unit_rig.proofs.numbered.free.Goals as goal

pub returns : goal.returns
returns g c = c.lend.ensures (free c.args.place) refl (λ x r y called. search rules)
