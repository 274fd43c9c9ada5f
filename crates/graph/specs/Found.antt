-- What a search answers, and what it leaves in the two lists.
use Rattle.std.specs.Prelude.{◌≡◌, ◌≢◌, ℕ, Bool, List, Ok, Err, Result, length, replicate, take}
use Rattle.graph.specs.Order.{IsCircle, IsOrder, Shown}
use Rattle.graph.specs.declared.found.NodeOrder.{NodeOrder}
use Rattle.graph.specs.declared.found.Found.{Found}
use Rattle.graph.specs.declared.found.Found.TheVariants.{Order, Circle}
use Rattle.graph.specs.declared.fault.ListFault.{ListFault}
use Rattle.graph.specs.declared.fault.ListFault.TheVariants.{CircleLength, MarksLength}

-- the nodes of an order as a list
abbrev pub listed : NodeOrder → List ℕ
listed order = take order.count order.nodes

-- all nodes are listed in an order, and so there is no circle
pub record Ordered (f : ℕ → ℕ → Bool) (n : ℕ) (order : NodeOrder) : Type 0 where
  pub whole : length (listed order) ≡ n
  pub is_order : IsOrder f n (listed order)
  pub no_circle : (list : List ℕ) (count : ℕ) → IsCircle f n list count → ⊥

-- an order of all nodes, with the circle list as it was, or a circle at the front of that list
abbrev pub Answered : (ℕ → ℕ → Bool) → ℕ → List ℕ → List ℕ → Found → Type 0
Answered f n before after (Order order) = Ordered f n order × (after ≡ before)
Answered f n before after (Circle count) = Shown f n before after count

-- a search of lists that are 64 long leaves the marks clear; any other is refused, the circle list first, and leaves both lists as they were
abbrev pub Searched : (ℕ → ℕ → Bool) → ℕ → List ℕ → List ℕ → List ℕ → List ℕ → Result Found ListFault → Type 0
Searched f n circle circle' marks marks' (Ok found) =
    (length circle ≡ 64) × (length marks ≡ 64) × Answered f n circle circle' found × (marks' ≡ replicate 64 0)
Searched f n circle circle' marks marks' (Err (CircleLength k)) = (k ≡ length circle) × (k ≢ 64) × (circle' ≡ circle) × (marks' ≡ marks)
Searched f n circle circle' marks marks' (Err (MarksLength k)) =
    (length circle ≡ 64) × (k ≡ length marks) × (k ≢ 64) × (circle' ≡ circle) × (marks' ≡ marks)
