-- Why a set-up is refused: the first cause in their order, at its lowest unit and port.
use Rattle.std.specs.Prelude.{◌≡◌, ℕ, ◌<◌, Bool, false, ◌||◌, List, length, replicate, slice_index, slice_index_or, Some, None, Ok, Err, Result, is_ok, Decides}
use Rattle.std.specs.List.{slice_get}
use Rattle.rig.specs.declared.shape.Status.{Status}
use Rattle.rig.specs.Units.{RigUnit}
use Rattle.wiring.specs.declared.port.Port.{Port}
use Rattle.wiring.specs.declared.table.Wiring.{Wiring}
use Rattle.wiring.specs.Wires.{source_of}
use Rattle.graph.specs.Order.{IsCircle, IsOrder, Shown}
use Rattle.graph.specs.Found.{listed}
use Rattle.graph.specs.declared.found.NodeOrder.{NodeOrder}
use Rattle.set_up.specs.declared.fault.CheckFault.{CheckFault}
use Rattle.set_up.specs.declared.fault.CheckFault.TheVariants.{ListLength, Size, InUse, Lacking, Unwired, Circle}
use Rattle.set_up.specs.Outputs.{Before, outputs_of, output_at, HasInput, Supplies, feeds}
use Rattle.set_up.specs.Passing.{Fits, IsFresh, Touches, Passes}

-- the lowest unit of which P holds
pub record LowestUnit (P : ℕ → Type 0) (u : ℕ) : Type 0 where
  pub holds : P u
  pub lowest : (v : ℕ) → v < u → P v → ⊥

-- the lowest port of which P holds
pub record LowestPort (P : Port → Type 0) (p : Port) : Type 0 where
  pub holds : P p
  pub lowest : (q : Port) → Before q p → P q → ⊥

-- a status tells that its unit is loose or has a filled place
abbrev pub filled_in : Status → ℕ → Bool
filled_in status p = slice_index_or status.filled p false

abbrev pub is_used : Status → Bool
is_used status = status.loose || (filled_in status 0 || (filled_in status 1 || (filled_in status 2 || filled_in status 3)))

-- unit u is loose or has a filled place
pub record IsInUse {S : Type 0} (us : List (RigUnit S)) (u : ℕ) : Type 0 where
  pub unit : RigUnit S
  pub there : slice_get us u ≡ Some unit
  pub used : IsFresh unit → ⊥

-- the wire of an input touches what the rig lacks
pub record IsLacking {S : Type 0} (us : List (RigUnit S)) (w : Wiring) (to : Port) : Type 0 where
  pub from : Port
  pub wire : Supplies w from to
  pub lacks : Touches us from to → ⊥

-- an input has no wire
pub record IsUnwired {S : Type 0} (us : List (RigUnit S)) (w : Wiring) (to : Port) : Type 0 where
  pub input : HasInput us to
  pub bare : source_of w to.unit to.port ≡ None

-- both lists are 64 long
pub record BothLong (circle marks : List ℕ) : Type 0 where
  pub of_circle : length circle ≡ 64
  pub of_marks : length marks ≡ 64

-- no cause up to the size, then up to the units, the wires and the inputs
pub record Sized {S : Type 0} (us : List (RigUnit S)) (circle marks : List ℕ) : Type 0 where
  pub both_long : BothLong circle marks
  pub fits : Fits us

pub record Unused {S : Type 0} (us : List (RigUnit S)) (circle marks : List ℕ) : Type 0 where
  pub sized : Sized us circle marks
  pub none_used : (u : ℕ) → IsInUse us u → ⊥

pub record Touching {S : Type 0} (us : List (RigUnit S)) (w : Wiring) (circle marks : List ℕ) : Type 0 where
  pub unused : Unused us circle marks
  pub none_lacking : (to : Port) → IsLacking us w to → ⊥

pub record Joined {S : Type 0} (us : List (RigUnit S)) (w : Wiring) (circle marks : List ℕ) : Type 0 where
  pub touching : Touching us w circle marks
  pub none_unwired : (to : Port) → IsUnwired us w to → ⊥

-- a cause before the search holds, at its lowest unit and port, and none before it does
abbrev pub IsFirst : {S : Type 0} → List (RigUnit S) → Wiring → List ℕ → List ℕ → CheckFault → Type 0
IsFirst us w circle marks ListLength = BothLong circle marks → ⊥
IsFirst us w circle marks Size = BothLong circle marks × (Fits us → ⊥)
IsFirst us w circle marks (InUse u) = Sized us circle marks × LowestUnit (IsInUse us) u
IsFirst us w circle marks (Lacking to) = Unused us circle marks × LowestPort (IsLacking us w) to
IsFirst us w circle marks (Unwired to) = Touching us w circle marks × LowestPort (IsUnwired us w) to
IsFirst us w circle marks (Circle first count) = ⊥

-- refused before the search: no list is touched
pub record Refused {S : Type 0} (us : List (RigUnit S)) (w : Wiring) (circle circle' marks marks' : List ℕ) (fault : CheckFault) : Type 0 where
  pub cause : IsFirst us w circle marks fault
  pub circle_kept : circle' ≡ circle
  pub marks_kept : marks' ≡ marks

-- refused for a circle, which is shown at the front of the circle list; the marks are clear
pub record Circled {S : Type 0} (us : List (RigUnit S)) (w : Wiring) (circle circle' marks marks' : List ℕ) (first : Port) (count : ℕ) : Type 0 where
  pub joined : Joined us w circle marks
  pub shown : Shown (feeds us w) (length (outputs_of us)) circle circle' count
  pub named : first ≡ output_at us (slice_index circle' 0)
  pub marks_clear : marks' ≡ replicate 64 0

-- passed, with the order of the outputs; the circle list is as it was, and the marks are clear
pub record Passed {S : Type 0} (us : List (RigUnit S)) (w : Wiring) (circle circle' marks marks' : List ℕ) (order : NodeOrder) : Type 0 where
  pub both_long : BothLong circle marks
  pub passes : Passes us w
  pub all : length (listed order) ≡ length (outputs_of us)
  pub in_order : IsOrder (feeds us w) (length (outputs_of us)) (listed order)
  pub circle_kept : circle' ≡ circle
  pub marks_clear : marks' ≡ replicate 64 0

-- what the causes before the search give
abbrev pub Cleared : {S : Type 0} → List (RigUnit S) → Wiring → List ℕ → List ℕ → Result (Unit {0}) CheckFault → Type 0
Cleared us w circle marks (Ok _) = Joined us w circle marks
Cleared us w circle marks (Err fault) = IsFirst us w circle marks fault

-- why a set-up is refused, and the two lists after it
abbrev pub Denied : {S : Type 0} → List (RigUnit S) → Wiring → List ℕ → List ℕ → List ℕ → List ℕ → CheckFault → Type 0
Denied us w circle circle' marks marks' ListLength = Refused us w circle circle' marks marks' ListLength
Denied us w circle circle' marks marks' Size = Refused us w circle circle' marks marks' Size
Denied us w circle circle' marks marks' (InUse u) = Refused us w circle circle' marks marks' (InUse u)
Denied us w circle circle' marks marks' (Lacking to) = Refused us w circle circle' marks marks' (Lacking to)
Denied us w circle circle' marks marks' (Unwired to) = Refused us w circle circle' marks marks' (Unwired to)
Denied us w circle circle' marks marks' (Circle first count) = Circled us w circle circle' marks marks' first count

-- what a check answers, and the two lists after it
abbrev pub Checked : {S : Type 0} → List (RigUnit S) → Wiring → List ℕ → List ℕ → List ℕ → List ℕ → Result NodeOrder CheckFault → Type 0
Checked us w circle circle' marks marks' (Ok order) = Passed us w circle circle' marks marks' order
Checked us w circle circle' marks marks' (Err fault) = Denied us w circle circle' marks marks' fault

-- there is a circle of outputs
abbrev pub HasCircle : {S : Type 0} → List (RigUnit S) → Wiring → Type 0
HasCircle us w = (list : List ℕ) × (count : ℕ) × IsCircle (feeds us w) (length (outputs_of us)) list count

-- a set-up passes exactly when it is to pass, and each cause is answered exactly when it is the first
pub record Exactly {S : Type 0} (us : List (RigUnit S)) (w : Wiring) (circle marks : List ℕ) (answer : Result NodeOrder CheckFault) : Type 0 where
  pub passes : Decides (is_ok answer) (BothLong circle marks × Passes us w)
  pub refuses : (fault : CheckFault) → IsFirst us w circle marks fault → answer ≡ Err fault
  pub circles : Joined us w circle marks → HasCircle us w → (first : Port) × (count : ℕ) × (answer ≡ Err (Circle first count))
