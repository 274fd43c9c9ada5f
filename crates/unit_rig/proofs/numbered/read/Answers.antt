use Rattle.std.proofs.Common.{rules, ◌≡◌, ◌<◌, length, get_or, refl}
use Rattle.unit_rig.proofs.Listing.{told_there}
use Rattle.unit_rig.proofs.numbered.read.Goals as goal

pub returns : goal.returns
returns g c k target reads =
    let inside : c.args.unit < length c.args.units.now = search rules in
    let read : c.in_ok-lent.lent.now ≡ get_or c.args.units.now c.args.unit c.in_ok-lent.lent.now = search rules in
    told_there g.U.UnitCalls.model g.U.UnitCalls.label_of k c.args.units.now c.args.unit target inside read c.call.result c.blame.ensures
    (reads c.in_ok-lent.lent.now c.call.result (c.in_ok-lent.lent, c.call.ensures, refl))
