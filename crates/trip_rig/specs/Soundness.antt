-- A trip obeys the laws of a behaviour.
use Rattle.std.specs.Prelude.{List, refl}
use Rattle.std.proofs.Common.{arith}
use Rattle.rig.specs.Laws.{Suits, SoundRules}
use Rattle.trip_rig.specs.declared.trip.Segment.{Segment}
use Rattle.trip_rig.specs.declared.trip.Position.{Position}
use Rattle.trip_rig.specs.Playing.{trip}
use Rattle.trip_rig.specs.Trips.{held_at}

pub sound_rules : SoundRules trip
sound_rules = record { inputs = omega arith; outputs = omega arith; masks = (omega arith, tt); reads = λ port l st xs ys lx ly agree. refl }

pub suits_trip : (segments : List Segment) (p : Position) → Suits trip (held_at segments p)
suits_trip segments p = record { signals = refl; bound = λ xs l. p.present.few }
