use Rattle.std.proofs.Common.{◌-◌}
use Rattle.graph.specs.Copied.{fed}
use Rattle.graph.proofs.Places.{Placing}
use Rattle.graph.proofs.placing.place_all.Given as goal

abbrev pub invariant-loop-node : goal.invariant-loop-node
invariant-loop-node l = Placing (fed l.arcs) l.arcs.count l.marks l.order l.placed

abbrev pub decreases-loop-node : goal.decreases-loop-node
decreases-loop-node l = 64 - l.placed
