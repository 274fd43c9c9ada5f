-- The units of a trip's rig, and that they obey the laws of a rig.
use Rattle.std.specs.Prelude.{◌≤◌, List, map, length, ℤ, Some, None, Option, refl}
use Rattle.std.specs.Option.{option_to_list}
use Rattle.std.proofs.Common.{arith}
use Rattle.rig.specs.Units.{RigUnit}
use Rattle.rig.specs.Laws.{Sound}
use Rattle.memory.specs.Kept.{unit_from}
use Rattle.unit_rig.specs.Soundness.{sound_unit, sound_list}
use Rattle.trip_rig.specs.declared.trip.TripRig.{TripRig}
use Rattle.trip_rig.specs.Playing.{trip}
use Rattle.trip_rig.specs.Trips.{held_at}
use Rattle.trip_rig.specs.Soundness.{sound_rules, suits_trip}

-- the unit, if there is one, by the rules of a trip
abbrev pub units_of : TripRig → List (RigUnit ℤ)
units_of t = map (λ x. unit_from trip (held_at x.behaviour.segments.items) x.memory) (option_to_list t.unit)

few : {X : Type 0} (o : Option X) → length (option_to_list o) ≤ 16
few None = omega arith
few (Some x) = omega arith

pub sound_trip : (t : TripRig) → Sound (units_of t)
sound_trip t = sound_list _ (λ x. sound_unit _ _ _ sound_rules (λ p own. suits_trip x.behaviour.segments.items p) x.memory x.holds x.keeps) (option_to_list t.unit) refl (few t.unit)
