-- The calls of a rig: what each answers, what it does to the unit, and for which cause it is refused first.
use Rattle.std.specs.Prelude.{◌≡◌, ℕ, min, Bool, cond, not, ◌&&◌, List, [], ◌∷◌, length, is_some, Some, None, Ok, Err, Option, Result, nat_le, nat_lt, slice_index, slice_index_or, slice_set}
use Rattle.std.specs.List.{slice_get}
use Rattle.rig.specs.declared.cause.Cause.{Cause}
use Rattle.rig.specs.declared.cause.Cause.TheVariants.{NoSuch, StepRange, Loose, Filled, Empty}
use Rattle.rig.specs.declared.cause.Target.{Target}
use Rattle.rig.specs.declared.cause.Target.TheVariants.{Whole, Port, Place}
use Rattle.rig.specs.declared.cause.RigFault.{RigFault}
use Rattle.rig.specs.declared.shape.Ports.{Ports}
use Rattle.rig.specs.declared.shape.Status.{Status}
use Rattle.rig.specs.Units.{RigUnit, out_of, bound_of, fed, stepped, saved, restored, freed}

-- A call of one unit: what it asks for, what the unit answers or why it refuses, and what becomes of a unit that does not refuse.
pub record Call (S T : Type 0) : Type 0 where
  pub target : Target
  pub answer : RigUnit S → Result T Cause
  pub effect : RigUnit S → RigUnit S

-- a unit's refusal as its rig's fault, and a fault as a level above numbers its unit
abbrev pub blamed : {T : Type 0} → ℕ → Target → Result T Cause → Result T RigFault
blamed u t (Ok r) = Ok r
blamed u t (Err e) = Err (record { cause = e; unit = u; target = t })

abbrev pub renumbered : {T : Type 0} → ℕ → Result T RigFault → Result T RigFault
renumbered u (Ok r) = Ok r
renumbered u (Err f) = Err (record { cause = f.cause; unit = u; target = f.target })

abbrev pub answer_in : {S T : Type 0} → Call S T → Option (RigUnit S) → Result T Cause
answer_in k None = Err NoSuch
answer_in k (Some x) = k.answer x

-- the answer to a call of unit u
abbrev pub answer_of : {S T : Type 0} → Call S T → List (RigUnit S) → ℕ → Result T RigFault
answer_of k us u = blamed u k.target (answer_in k (slice_get us u))

-- a refusal changes nothing
abbrev pub unit_after : {S T : Type 0} → Call S T → RigUnit S → Result T Cause → RigUnit S
unit_after k x (Ok r) = k.effect x
unit_after k x (Err e) = x

abbrev pub after_in : {S T : Type 0} → Call S T → List (RigUnit S) → ℕ → Option (RigUnit S) → List (RigUnit S)
after_in k us u None = us
after_in k us u (Some x) = slice_set us u (unit_after k x (k.answer x))

-- the units after a call of unit u: no other unit changes
abbrev pub units_after : {S T : Type 0} → Call S T → List (RigUnit S) → ℕ → List (RigUnit S)
units_after k us u = after_in k us u (slice_get us u)

-- the call k of unit u was made: its answer, and the units after it
pub record Called {S T : Type 0} (k : Call S T) (before : List (RigUnit S)) (u : ℕ) (r : Result T RigFault) (after : List (RigUnit S)) : Type 0 where
  pub answer : r ≡ answer_of k before u
  pub units : after ≡ units_after k before u

-- the same, said of the one unit that is called
pub record UnitCalled {S T : Type 0} (k : Call S T) (before : RigUnit S) (r : Result T Cause) (after : RigUnit S) : Type 0 where
  pub answer : r ≡ k.answer before
  pub unit : after ≡ unit_after k before (k.answer before)

-- the tests of the calls, each with its cause, over contents of any kind
abbrev pub require : {T : Type 0} → Bool → Cause → Result T Cause → Result T Cause
require b e r = cond b r (Err e)

abbrev pub in_place : {X T : Type 0} → Option X → (X → Result T Cause) → Result T Cause
in_place None f = Err Loose
in_place (Some a) f = f a

abbrev pub if_empty : {X : Type 0} → Option X → Result (Unit {0}) Cause
if_empty None = Ok tt
if_empty (Some a) = Err Filled

abbrev pub if_filled : {X : Type 0} → Option X → Result (Unit {0}) Cause
if_filled None = Err Empty
if_filled (Some a) = Ok tt

-- what save answers, and what restore and free answer, by what is held and by the places
abbrev pub save_answer : {X : Type 0} → ℕ → Option X → List (Option X) → Result (Unit {0}) Cause
save_answer p o ps = require (nat_lt p 4) NoSuch (in_place o (λ _. if_empty (slice_index_or ps p None)))

abbrev pub back_answer : {X : Type 0} → ℕ → List (Option X) → Result (Unit {0}) Cause
back_answer p ps = require (nat_lt p 4) NoSuch (if_filled (slice_index_or ps p None))

abbrev pub filled_at : {X : Type 0} → List (Option X) → ℕ → Bool
filled_at ps p = is_some (slice_index_or ps p None)

abbrev pub status_of : {X : Type 0} → Option X → List (Option X) → Status
status_of o ps = record { loose = not (is_some o); filled = filled_at ps 0 ∷ filled_at ps 1 ∷ filled_at ps 2 ∷ filled_at ps 3 ∷ [] }

abbrev pub unchanged : {S : Type 0} → RigUnit S → RigUnit S
unchanged x = x

abbrev pub ports_of : {S : Type 0} → RigUnit S → Ports
ports_of x = record { inputs = x.rules.inputs; outputs = length x.rules.masks }

abbrev pub ports : {S : Type 0} → Call S Ports
ports = record { target = Whole; answer = λ x. Ok (ports_of x); effect = unchanged }

abbrev pub mask : {S : Type 0} → ℕ → Call S ℕ
mask port = record {
  target = Port port;
  answer = λ x. require (nat_lt port (length x.rules.masks)) NoSuch (Ok (slice_index x.rules.masks port));
  effect = unchanged;
}

abbrev pub status : {S : Type 0} → Call S Status
status = record { target = Whole; answer = λ x. Ok (status_of x.held x.places); effect = unchanged }

abbrev pub put : {S : Type 0} → ℕ → S → Call S (Unit {0})
put port v = record {
  target = Port port;
  answer = λ x. require (nat_lt port x.rules.inputs) NoSuch (in_place x.held (λ _. Ok tt));
  effect = fed port v;
}

abbrev pub get : {S : Type 0} → ℕ → Call S S
get port = record {
  target = Port port;
  answer = λ x. require (nat_lt port (length x.rules.masks)) NoSuch (in_place x.held (λ a. Ok (out_of x port a)));
  effect = unchanged;
}

abbrev pub step : {S : Type 0} → ℕ → Call S ℕ
step h = record {
  target = Whole;
  answer = λ x. require (nat_le 1 h && nat_le h 1000000) StepRange (in_place x.held (λ a. Ok (min h (bound_of x a))));
  effect = stepped h;
}

abbrev pub save : {S : Type 0} → ℕ → Call S (Unit {0})
save p = record { target = Place p; answer = λ x. save_answer p x.held x.places; effect = saved p }

abbrev pub restore : {S : Type 0} → ℕ → Call S (Unit {0})
restore p = record { target = Place p; answer = λ x. back_answer p x.places; effect = restored p }

abbrev pub free : {S : Type 0} → ℕ → Call S (Unit {0})
free p = record { target = Place p; answer = λ x. back_answer p x.places; effect = freed p }
