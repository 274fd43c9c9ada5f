-- The copied arcs of a graph.
use Rattle.std.specs.Prelude.{◌≡◌, ℕ, ◌<◌, Bool, false, [], slice_index_or}
use Rattle.graph.specs.declared.arcs.Arcs.{Arcs}

-- u feeds v
abbrev pub fed : Arcs → ℕ → ℕ → Bool
fed arcs u v = slice_index_or (slice_index_or arcs.rows u []) v false

-- the arcs are those of a graph, at its nodes
pub record Copied (f : ℕ → ℕ → Bool) (n : ℕ) (arcs : Arcs) : Type 0 where
  pub count : arcs.count ≡ n
  pub same : (u v : ℕ) → u < n → v < n → fed arcs u v ≡ f u v
