-- How far a search has come, by marks: 1 at a node that is placed, 2 at one of the path back, 0 at any other.
use Rattle.std.specs.Prelude.{◌≡◌, ℕ, ◌-◌, ◌<◌, ◌≤◌, ◌≢◌, Bool, true, List, length, slice_index}

-- each feeder of v is placed
abbrev pub Closed : (ℕ → ℕ → Bool) → ℕ → List ℕ → ℕ → Type 0
Closed f n marks v = (u : ℕ) → u < n → f u v ≡ true → slice_index marks u ≡ 1

-- u feeds v and is not placed
abbrev pub Feeder : (ℕ → ℕ → Bool) → ℕ → List ℕ → ℕ → ℕ → Type 0
Feeder f n marks v u = (u < n) × (f u v ≡ true) × (slice_index marks u ≢ 1)

-- no node below k is ready
abbrev pub NoneReady : (ℕ → ℕ → Bool) → ℕ → List ℕ → ℕ → Type 0
NoneReady f n marks k = (w : ℕ) → w < k → slice_index marks w ≡ 0 → Closed f n marks w → ⊥

-- v is the lowest-numbered node that is ready
pub record FirstReady (f : ℕ → ℕ → Bool) (n : ℕ) (marks : List ℕ) (v : ℕ) : Type 0 where
  pub node : v < n
  pub open_still : slice_index marks v ≡ 0
  pub closed : Closed f n marks v
  pub lowest : NoneReady f n marks v

-- each node that is not placed has a feeder that is not
abbrev pub Stuck : (ℕ → ℕ → Bool) → ℕ → List ℕ → Type 0
Stuck f n marks = (v : ℕ) → v < n → slice_index marks v ≢ 1 → Closed f n marks v → ⊥

-- v is left over: no node is ready, and v is not placed
pub record LeftOver (f : ℕ → ℕ → Bool) (n : ℕ) (marks : List ℕ) (v : ℕ) : Type 0 where
  pub node : v < n
  pub open_still : slice_index marks v ≡ 0
  pub stuck : Stuck f n marks
  pub bits : (u : ℕ) → slice_index marks u ≤ 1

-- a node stands nowhere in a list
abbrev pub Lacks : List ℕ → ℕ → Type 0
Lacks list v = (k : ℕ) → k < length list → slice_index list k ≢ v

-- a path up to where v stands was copied to the front of a list, and no more
pub record Taken (path : List ℕ) (v : ℕ) (before after : List ℕ) (count : ℕ) : Type 0 where
  pub some : 0 < count
  pub within : count ≤ length path
  pub ends : slice_index path (count - 1) ≡ v
  pub front : (i : ℕ) → i < count → slice_index after i ≡ slice_index path i
  pub rest : (i : ℕ) → count ≤ i → slice_index after i ≡ slice_index before i
