use Rattle.std.proofs.Common.{rules, get_or, ap}
use Rattle.unit_rig.proofs.Listing.{lent_there}
use Rattle.unit_rig.proofs.numbered.lend.Goals as goal

pub returns : goal.returns
returns g c k target changes =
    let lent = get_or c.args.units.now c.args.unit in
    lent_there g.U.UnitCalls.model g.U.UnitCalls.label_of k c.args.units.now c.args.unit target c.if-unit-units.false (ap lent c.index-units-unit.is) c.call.result c.blame.ensures c.call.new.arg2
    (changes (lent c.index-units-unit.result) c.call.result c.call.new.arg2 (search rules))
