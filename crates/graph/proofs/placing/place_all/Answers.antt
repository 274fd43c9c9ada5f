use Rattle.std.proofs.Common.{refl, arith, rules}
use Rattle.graph.proofs.Places.{start, some_place, place, outcome}
use Rattle.graph.proofs.placing.place_all.Goals as goal

pub loop-node-init : goal.loop-node-init
loop-node-init c = start _ _ _ _ c.args.arcs.now.few c.requires.0 c.requires.1

pub bounds-order-placed : goal.bounds-order-placed
bounds-order-placed c = let h = some_place _ _ _ _ _ _ c.loop-node.invariant c.in-Some.ensures in omega arith

pub overflow_add-placed : goal.overflow_add-placed
overflow_add-placed c = let h = some_place _ _ _ _ _ _ c.loop-node.invariant c.in-Some.ensures in search rules

pub loop-node-smaller : goal.loop-node-smaller
loop-node-smaller c = let h = some_place _ _ _ _ _ _ c.loop-node.invariant c.in-Some.ensures in omega arith

pub loop-node-preserved : goal.loop-node-preserved
loop-node-preserved c = place _ _ _ _ _ _ c.loop-node.invariant c.in-Some.ensures

pub returns : goal.returns
returns c = outcome _ _ _ _ _ _ _ refl c.loop-node.invariant c.in_default.ensures c.first_open.ensures
