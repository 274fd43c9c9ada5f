use Rattle.std.proofs.Common.{◌≡◌}
use Rattle.graph.specs.Copied.{fed}
use Rattle.graph.proofs.Walks.{Walking}
use Rattle.graph.proofs.walking.walk.Given as goal

abbrev pub invariant-loop-feeder : goal.invariant-loop-feeder
invariant-loop-feeder l = Walking (fed l.arcs) l.arcs.count l.marks l.path l.top l.node × (l.circle ≡ l.initial.circle)

abbrev pub decreases-loop-feeder : goal.decreases-loop-feeder
decreases-loop-feeder l = l.top
