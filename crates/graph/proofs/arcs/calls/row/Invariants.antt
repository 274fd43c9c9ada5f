use Rattle.std.proofs.Common.{◌≡◌, ℕ, ◌<◌, ◌≤◌, length, false, get_or}
use Rattle.graph.proofs.arcs.calls.row.Given as goal

abbrev pub invariant-loop-node : goal.invariant-loop-node
invariant-loop-node g l =
    (l.node-end ≤ 64) × (length l.row ≡ 64) × ((v : ℕ) → v < l.node → get_or l.row v false ≡ g.G.Graph.arc l.graph l.feeder v)
