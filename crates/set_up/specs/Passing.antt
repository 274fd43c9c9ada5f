-- When a set-up passes its check.
use Rattle.std.specs.Prelude.{◌≡◌, ℕ, ◌<◌, ◌≤◌, List, length, Some, None}
use Rattle.std.specs.List.{slice_get}
use Rattle.std.specs.Option.{IsSome}
use Rattle.rig.specs.Units.{RigUnit, place_of}
use Rattle.wiring.specs.declared.port.Port.{Port}
use Rattle.wiring.specs.declared.table.Wiring.{Wiring}
use Rattle.wiring.specs.Wires.{source_of}
use Rattle.graph.specs.Order.{IsCircle}
use Rattle.set_up.specs.Outputs.{inputs_of, outputs_of, HasInput, HasOutput, Supplies, feeds}

-- some unit, and at most 64 inputs and 64 outputs
pub record Fits {S : Type 0} (us : List (RigUnit S)) : Type 0 where
  pub some_unit : 0 < length us
  pub inputs : length (inputs_of us) ≤ 64
  pub outputs : length (outputs_of us) ≤ 64

-- a unit in place with its four places empty
pub record IsFresh {S : Type 0} (x : RigUnit S) : Type 0 where
  pub in_place : IsSome x.held
  pub empty : (p : ℕ) → p < 4 → place_of p x ≡ None

-- a wire touches only what the rig has
pub record Touches {S : Type 0} (us : List (RigUnit S)) (from to : Port) : Type 0 where
  pub input : HasInput us to
  pub output : HasOutput us from

-- a set-up that passes its check
pub record Passes {S : Type 0} (us : List (RigUnit S)) (w : Wiring) : Type 0 where
  pub fits : Fits us
  pub fresh : (u : ℕ) (x : RigUnit S) → slice_get us u ≡ Some x → IsFresh x
  pub touches : (from to : Port) → Supplies w from to → Touches us from to
  pub wired : (to : Port) → HasInput us to → IsSome (source_of w to.unit to.port)
  pub no_circle : (list : List ℕ) (count : ℕ) → IsCircle (feeds us w) (length (outputs_of us)) list count → ⊥
