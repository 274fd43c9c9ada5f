use Rattle.std.proofs.Common.{◌≡◌, ℕ, ◌<◌, ◌≤◌, [], false, length, get_or}
use Rattle.graph.proofs.arcs.Arcs.copy.Given as goal

abbrev pub invariant-loop-feeder : goal.invariant-loop-feeder
invariant-loop-feeder g l =
    (l.count ≤ 64)
    × (length l.rows ≡ 64)
    × ((u v : ℕ) → u < l.feeder → v < g.G.Graph.size l.graph → get_or (get_or l.rows u []) v false ≡ g.G.Graph.arc l.graph u v)
