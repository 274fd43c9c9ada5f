-- Orders and circles of a graph that is told by its number n of nodes and by f, with f u v true where u feeds v.
use Rattle.std.specs.Prelude.{◌≡◌, ℕ, ◌+◌, ◌-◌, ◌<◌, ◌≤◌, ◌≢◌, Bool, true, List, slice_index}

-- v stands in the first k places of an order
abbrev pub Stands : List ℕ → ℕ → ℕ → Type 0
Stands order k v = (j : ℕ) × (j < k) × (slice_index order j ≡ v)

-- v has no place among the first k of an order, and each of its feeders has one
abbrev pub Ready : (ℕ → ℕ → Bool) → ℕ → List ℕ → ℕ → ℕ → Type 0
Ready f n order k v = (v < n) × (Stands order k v → ⊥) × ((u : ℕ) → u < n → f u v ≡ true → Stands order k u)

-- each of the first k places has the lowest-numbered node that is ready after the places before it
abbrev pub LowestFirst : (ℕ → ℕ → Bool) → ℕ → List ℕ → ℕ → Type 0
LowestFirst f n order k = (j : ℕ) → j < k → Ready f n order j (slice_index order j) × ((w : ℕ) → w < slice_index order j → Ready f n order j w → ⊥)

-- the first of a list, one or more, are different nodes, each feeding the next and the last the first
pub record IsCircle (f : ℕ → ℕ → Bool) (n : ℕ) (list : List ℕ) (count : ℕ) : Type 0 where
  pub some : 0 < count
  pub nodes : (i : ℕ) → i < count → slice_index list i < n
  pub different : (i j : ℕ) → i < j → j < count → slice_index list i ≢ slice_index list j
  pub next : (i : ℕ) → i + 1 < count → f (slice_index list i) (slice_index list (i + 1)) ≡ true
  pub last : f (slice_index list (count - 1)) (slice_index list 0) ≡ true

-- the first n places have each node once, at each place the lowest-numbered that is ready
pub record IsOrder (f : ℕ → ℕ → Bool) (n : ℕ) (order : List ℕ) : Type 0 where
  pub lowest : LowestFirst f n order n
  pub all : (v : ℕ) → v < n → Stands order n v

-- a circle stands at the front of the list, and so there is no order; the rest of the list is as it was
pub record Shown (f : ℕ → ℕ → Bool) (n : ℕ) (before after : List ℕ) (count : ℕ) : Type 0 where
  pub circle : IsCircle f n after count
  pub no_order : (order : List ℕ) → IsOrder f n order → ⊥
  pub rest : (i : ℕ) → count ≤ i → slice_index after i ≡ slice_index before i
