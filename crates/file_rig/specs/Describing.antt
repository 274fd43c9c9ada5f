-- What a unit of a file rig is and how it stands: the design by which it would be made now.
use Rattle.std.specs.Prelude.{◌≡◌, ℕ, List, ℤ, Some, Ok, Err, Result, IsSomeAnd}
use Rattle.std.specs.List.{slice_get}
use Rattle.std.specs.Option.{option_map}
use Rattle.rig.specs.declared.cause.Target.TheVariants.{Whole}
use Rattle.rig.specs.declared.cause.RigFault.{RigFault}
use Rattle.rig.specs.Units.{RigUnit}
use Rattle.rig.specs.Calls.{Call, answer_of, in_place, unchanged}
use Rattle.kinds.specs.declared.design.Design.{Design}
use Rattle.kinds.specs.Contents.{rules_of}
use Rattle.kinds.specs.Designs.{kind_as, held_as}

-- refused as every call of a unit that is missing or loose
abbrev pub standing : Call ℤ (Unit {0})
standing = record { target = Whole; answer = λ x. in_place x.held (λ _. Ok tt); effect = unchanged }

-- a unit in place with the rules and the state of a design
pub record StandsAs (d : Design) (x : RigUnit ℤ) : Type 0 where
  pub rules : x.rules ≡ rules_of (kind_as d)
  pub state : option_map (λ a. a.state) x.held ≡ Some (held_as d).state

-- unit u described
abbrev pub Described : List (RigUnit ℤ) → ℕ → Result Design RigFault → Type 0
Described us u (Ok d) = IsSomeAnd (slice_get us u) (StandsAs d)
Described us u (Err f) = answer_of standing us u ≡ Err f
