use Rattle.std.proofs.Common.{◌≡◌, ◌-◌, ◌++◌, length, vec_items}
use Rattle.trip_rig.specs.Reading.{read_pairs}
use Rattle.trip_rig.specs.Trips.{flat}
use Rattle.trip_rig.proofs.trip.reading.read.Given as goal

abbrev pub invariant-loop-rest : goal.invariant-loop-rest
invariant-loop-rest l = flat (vec_items l.segments) ++ read_pairs (l.most - length (vec_items l.segments)) l.rest ≡ read_pairs l.most l.numbers

abbrev pub decreases-loop-rest : goal.decreases-loop-rest
decreases-loop-rest l = l.most - length (vec_items l.segments)
