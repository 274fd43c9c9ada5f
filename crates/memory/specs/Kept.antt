-- What save, restore and free answer and leave, and the unit that a memory makes.
use Rattle.std.specs.Prelude.{◌≡◌, ℕ, cond, List, map, is_ok, Some, None, Option, Result, slice_index_or, slice_set}
use Rattle.std.specs.Option.{option_map}
use Rattle.rig.specs.declared.cause.Cause.{Cause}
use Rattle.rig.specs.Units.{Rules, Held, RigUnit, empty_places}
use Rattle.rig.specs.Calls.{save_answer, back_answer}
use Rattle.memory.specs.declared.store.Memory.{Memory}

-- in place with these contents, all places empty
pub record Fresh {X : Type 0} (a : X) (m : Memory X) : Type 0 where
  pub held : m.held ≡ Some a
  pub places : m.places ≡ empty_places

pub record Saved {X : Type 0} (p : ℕ) (before : Memory X) (r : Result (Unit {0}) Cause) (after : Memory X) : Type 0 where
  pub answer : r ≡ save_answer p before.held before.places
  pub held : after.held ≡ before.held
  pub places : after.places ≡ cond (is_ok r) (slice_set before.places p before.held) before.places

pub record Restored {X : Type 0} (p : ℕ) (before : Memory X) (r : Result (Unit {0}) Cause) (after : Memory X) : Type 0 where
  pub answer : r ≡ back_answer p before.places
  pub held : after.held ≡ cond (is_ok r) (slice_index_or before.places p None) before.held
  pub places : after.places ≡ before.places

pub record Freed {X : Type 0} (p : ℕ) (before : Memory X) (r : Result (Unit {0}) Cause) (after : Memory X) : Type 0 where
  pub answer : r ≡ back_answer p before.places
  pub held : after.held ≡ before.held
  pub places : after.places ≡ cond (is_ok r) (slice_set before.places p None) before.places

-- the unit with these rules whose contents are read by f
abbrev pub unit_with : {X S : Type 0} → Rules S → (X → Held S) → Option X → List (Option X) → RigUnit S
unit_with k f o ps = record { rules = k; held = option_map f o; places = map (option_map f) ps }

abbrev pub unit_from : {X S : Type 0} → Rules S → (X → Held S) → Memory X → RigUnit S
unit_from k f m = unit_with k f m.held m.places
