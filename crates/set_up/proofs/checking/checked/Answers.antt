use Rattle.set_up.proofs.Searched.{passed, circled, not_refused}
use Rattle.set_up.proofs.checking.checked.Goals as goal

pub returns-in-Ok-Order : goal.returns-in-Ok-Order
returns-in-Ok-Order g c =
    passed (g.R.Rig.model c.args.rig.now) c.args.wiring.now c.list-outputs.result c.args.circle.now c.search.new.circle c.args.marks.now c.search.new.marks c.in-Ok-Order.order
    c.in_ok-clear.ensures c.list-outputs.ensures (rw c.in-Ok-Order.field-0-is at c.in-Ok-Order.ensures)

pub returns-in-Ok-Circle : goal.returns-in-Ok-Circle
returns-in-Ok-Circle g c =
    circled (g.R.Rig.model c.args.rig.now) c.args.wiring.now c.list-outputs.result c.args.circle.now c.search.new.circle c.args.marks.now c.search.new.marks c.first_of.result c.in-Ok-Circle.count
    c.in_ok-clear.ensures c.list-outputs.ensures (rw c.in-Ok-Circle.field-0-is at c.in-Ok-Circle.ensures) c.first_of.ensures

pub returns-in-Err : goal.returns-in-Err
returns-in-Err g c =
    absurd (not_refused (g.R.Rig.model c.args.rig.now) c.args.wiring.now c.list-outputs.result c.args.circle.now c.search.new.circle c.args.marks.now c.search.new.marks c.in-Err.field-0
    c.in_ok-clear.ensures c.in-Err.ensures)
