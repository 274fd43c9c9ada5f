-- A unit of a list lent to a function that makes one call of it.
-- Model and label stand apart, here and in contracts: this file could name them together only by importing the trait, which imports it.
use Rattle.std.specs.Prelude.{◌≡◌, ℕ, List, map, Result}
use Rattle.std.specs.Fn.{Once, FnOnceReturnsAt, FnOnceReturnsAtMut}
use Rattle.std.specs.Borrow.{Bor, MutBor}
use Rattle.rig.specs.declared.cause.Cause.{Cause}
use Rattle.rig.specs.declared.cause.RigFault.{RigFault}
use Rattle.rig.specs.Units.{RigUnit}
use Rattle.rig.specs.Calls.{Call, Called, UnitCalled}

-- whatever unit it is lent, the function answers what the call k does
abbrev pub Reads : {F U S T : Type 0} → Once F (Bor U × Unit {0}) (Result T Cause) → F → (U → RigUnit S) → Call S T → Type 0
Reads {F} {U} {S} {T} g f model k = (x : U) (r : Result T Cause) → FnOnceReturnsAt g f x r → r ≡ k.answer (model x)

-- and leaves it as the call k does, with the label that it had
pub record LeftAs {U L S T : Type 0} (model : U → RigUnit S) (label_of : U → L) (k : Call S T) (before : U) (r : Result T Cause) (after : U) : Type 0 where
  pub call : UnitCalled k (model before) r (model after)
  pub label : label_of after ≡ label_of before

abbrev pub Changes : {F U L S T : Type 0} → Once F (MutBor U × Unit {0}) (Result T Cause × (MutBor U × Unit {0})) → F → (U → RigUnit S) → (U → L) → Call S T → Type 0
Changes {F} {U} {L} {S} {T} g f model label k = (x : U) (r : Result T Cause) (y : U) → FnOnceReturnsAtMut g f x r y → LeftAs model label k x r y

-- the call k was made of unit u of a list: every unit keeps its label
pub record Lent {U L S T : Type 0} (model : U → RigUnit S) (label : U → L) (k : Call S T) (before : List U) (u : ℕ) (r : Result T RigFault) (after : List U) : Type 0 where
  pub call : Called k (map model before) u r (map model after)
  pub labels : map label after ≡ map label before
