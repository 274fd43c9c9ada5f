-- The units of a rig under a limit.
use Rattle.std.specs.Prelude.{◌≡◌, ℕ, min, max, Bool, true, false, cond, ◌&&◌, List, [], ◌∷◌, length, Some, None, Ok, Err, Option, Result, nat_le, nat_lt, slice_index_or}
use Rattle.std.specs.List.{slice_get}
use Rattle.rig.specs.declared.cause.Cause.{Cause}
use Rattle.rig.specs.declared.cause.Cause.TheVariants.{NoSuch, Loose, StepRange}
use Rattle.rig.specs.declared.cause.Target.{Target}
use Rattle.rig.specs.declared.cause.RigFault.{RigFault}
use Rattle.rig.specs.Units.{Rules, Held, RigUnit}

-- the nearest limit from 1 to 1,000,000
abbrev pub nearest : ℕ → ℕ
nearest most = max 1 (min 1000000 most)

-- the rules of a unit, BOUND being at most the limit
abbrev pub rules_under : {S : Type 0} → ℕ → Rules S → Rules S
rules_under most k = record { inputs = k.inputs; masks = k.masks; out = k.out; bound = λ state inputs. min most (k.bound state inputs); next = k.next }

-- a unit under the limit, loose where its flag is set
abbrev pub unit_under : {S : Type 0} → ℕ → Bool → RigUnit S → RigUnit S
unit_under most flag x = record { rules = rules_under most x.rules; held = cond flag None x.held; places = x.places }

-- the units under the limit, each with its flag
abbrev pub units_under : {S : Type 0} → ℕ → List Bool → List (RigUnit S) → List (RigUnit S)
units_under most flags [] = []
units_under most [] (x ∷ us) = unit_under most false x ∷ units_under most [] us
units_under most (f ∷ flags) (x ∷ us) = unit_under most f x ∷ units_under most flags us

-- A unit below the limit, told from the same unit under it: places are the same, and so is what is held, unless the unit is loose
-- under the limit. What such a unit holds below is not told.
pub record UnitBeneath {S : Type 0} (most : ℕ) (below under : RigUnit S) : Type 0 where
  pub rules : under.rules ≡ rules_under most below.rules
  pub places : below.places ≡ under.places
  pub held : (a : Held S) → under.held ≡ Some a → below.held ≡ Some a

-- the units below the limit, told from those under it
pub record Beneath {S : Type 0} (most : ℕ) (below under : List (RigUnit S)) : Type 0 where
  pub count : length below ≡ length under
  pub each : (u : ℕ) (x y : RigUnit S) → slice_get below u ≡ Some x → slice_get under u ≡ Some y → UnitBeneath most x y

-- whether a unit has an input, and an output, with this number
abbrev pub input_in : {S : Type 0} → ℕ → Option (RigUnit S) → Bool
input_in port None = false
input_in port (Some x) = nat_lt port x.rules.inputs

abbrev pub output_in : {S : Type 0} → ℕ → Option (RigUnit S) → Bool
output_in port None = false
output_in port (Some x) = nat_lt port (length x.rules.masks)

-- why a call of a loose unit is refused, by whether there is what it asks for, and why a step is
abbrev pub loose_if : Bool → Cause
loose_if true = Loose
loose_if false = NoSuch

abbrev pub step_cause : Bool → ℕ → Cause
step_cause true h = cond (nat_le 1 h && nat_le h 1000000) Loose StepRange
step_cause false h = NoSuch

-- a unit whose flag is not set, or its refusal
abbrev pub Unflagged : List Bool → ℕ → Target → Bool → Result (Unit {0}) RigFault → Type 0
Unflagged flags u t there (Ok r) = slice_index_or flags u false ≡ false
Unflagged flags u t there (Err f) = (slice_index_or flags u false ≡ true) × (f ≡ record { cause = loose_if there; unit = u; target = t })

-- the same by an answer that something says, which need be asked only where the flag is set
abbrev pub UnflaggedBy : (Bool → Type 0) → List Bool → ℕ → Target → Result (Unit {0}) RigFault → Type 0
UnflaggedBy Says flags u t (Ok r) = slice_index_or flags u false ≡ false
UnflaggedBy Says flags u t (Err f) = (there : Bool) × Says there × Unflagged flags u t there (Err f)
