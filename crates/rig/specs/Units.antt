-- What a unit is and holds, and what may become of it. A rig is a list of units, numbered from 0.
use Rattle.std.specs.Prelude.{ℕ, cond, List, [], ◌∷◌, ℤ, pos, Some, None, Option, nat_le, slice_index_or, slice_set}

-- The rules of a unit, which never change: how many inputs it has, the mask of each output, and
-- OUT of an output, BOUND and NEXT by a step. A state is a list of whole numbers, parameters included.
pub record Rules (S : Type 0) : Type 0 where
  pub inputs : ℕ
  pub masks : List ℕ
  pub out : ℕ → List ℤ → List S → S
  pub bound : List ℤ → List S → ℕ
  pub next : List ℤ → List S → ℕ → List ℤ

-- What a unit in place holds, and what a filled place holds: a state, and one signal for each input.
pub record Held (S : Type 0) : Type 0 where
  pub state : List ℤ
  pub inputs : List S

-- A unit: its rules, what it holds (nothing is known of that while it is loose), and its four places.
pub record RigUnit (S : Type 0) : Type 0 where
  pub rules : Rules S
  pub held : Option (Held S)
  pub places : List (Option (Held S))

-- a number of a state
abbrev pub item : List ℤ → ℕ → ℤ
item zs i = slice_index_or zs i (pos 0)

-- four empty places, and a unit in place with these contents and no more
abbrev pub empty_places : {X : Type 0} → List (Option X)
empty_places = None ∷ None ∷ None ∷ None ∷ []

abbrev pub fresh_unit : {S : Type 0} → Rules S → Held S → RigUnit S
fresh_unit k a = record { rules = k; held = Some a; places = empty_places }

-- what place p holds
abbrev pub place_of : {S : Type 0} → ℕ → RigUnit S → Option (Held S)
place_of p x = slice_index_or x.places p None

-- OUT of an output and BOUND, at what is held
abbrev pub out_of : {S : Type 0} → RigUnit S → ℕ → Held S → S
out_of x port a = x.rules.out port a.state a.inputs

abbrev pub bound_of : {S : Type 0} → RigUnit S → Held S → ℕ
bound_of x a = x.rules.bound a.state a.inputs

-- BOUND of a unit; a loose one takes no step
abbrev pub bound_in : {S : Type 0} → RigUnit S → Option (Held S) → ℕ
bound_in x None = 0
bound_in x (Some a) = bound_of x a

abbrev pub bound_at : {S : Type 0} → RigUnit S → ℕ
bound_at x = bound_in x x.held

-- the unit with other contents, and with other contents of place p
abbrev pub with_held : {S : Type 0} → RigUnit S → Option (Held S) → RigUnit S
with_held x o = record { rules = x.rules; held = o; places = x.places }

abbrev pub with_place : {S : Type 0} → RigUnit S → ℕ → Option (Held S) → RigUnit S
with_place x p o = record { rules = x.rules; held = x.held; places = slice_set x.places p o }

-- one input set
abbrev pub fed_in : {S : Type 0} → ℕ → S → Option (Held S) → Option (Held S)
fed_in port v None = None
fed_in port v (Some a) = Some (record { state = a.state; inputs = slice_set a.inputs port v })

abbrev pub fed : {S : Type 0} → ℕ → S → RigUnit S → RigUnit S
fed port v x = with_held x (fed_in port v x.held)

-- the state moved by NEXT, the inputs as they were
abbrev pub moved_in : {S : Type 0} → Rules S → ℕ → Option (Held S) → Option (Held S)
moved_in k h None = None
moved_in k h (Some a) = Some (record { state = k.next a.state a.inputs h; inputs = a.inputs })

abbrev pub moved : {S : Type 0} → ℕ → RigUnit S → RigUnit S
moved h x = with_held x (moved_in x.rules h x.held)

abbrev pub loosed : {S : Type 0} → RigUnit S → RigUnit S
loosed x = with_held x None

-- after a step: moved where BOUND allows it, otherwise loose
abbrev pub stepped : {S : Type 0} → ℕ → RigUnit S → RigUnit S
stepped h x = cond (nat_le h (bound_at x)) (moved h x) (loosed x)

-- contents copied into a place, taken back from it, and the place emptied
abbrev pub saved : {S : Type 0} → ℕ → RigUnit S → RigUnit S
saved p x = with_place x p x.held

abbrev pub restored : {S : Type 0} → ℕ → RigUnit S → RigUnit S
restored p x = with_held x (place_of p x)

abbrev pub freed : {S : Type 0} → ℕ → RigUnit S → RigUnit S
freed p x = with_place x p None
