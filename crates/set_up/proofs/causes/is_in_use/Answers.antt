use Rattle.std.proofs.Common.{Decides, sym, subst, ◌∙◌}
use Rattle.set_up.specs.Causes.{IsInUse}
use Rattle.set_up.proofs.Using.{told_used}
use Rattle.set_up.proofs.causes.is_in_use.Goals as goal

pub returns-in-Ok : goal.returns-in-Ok
returns-in-Ok g c =
    let us = g.R.Rig.model c.args.rig.now in
    subst (λ b. Decides b (IsInUse us c.args.unit)) (sym c.is_used.ensures) (told_used us c.args.unit c.in-Ok.status (sym c.in-Ok.is ∙ c.status.ensures))
