-- What the pairs and the position of a trip mean.
use Rattle.std.specs.Prelude.{◌≡◌, ℕ, true, List, [], ◌∷◌, drop, ℤ, pos, Some, None, Option}
use Rattle.std.specs.Borrow.{Bor}
use Rattle.rig.specs.Units.{Held}
use Rattle.trip_rig.specs.declared.trip.Segment.{Segment}
use Rattle.trip_rig.specs.declared.trip.Position.{Position}
use Rattle.trip_rig.specs.Reading.{are_ticks, read_pairs}

-- pairs as a list of numbers
abbrev pub flat : List Segment → List ℤ
flat [] = []
flat (l ∷ ls) = pos l.ticks ∷ l.value ∷ flat ls

-- the first pair of a list and what follows it; none where no pair is read
abbrev pub FirstPair : List ℤ → Option (Segment × Bor (List ℤ)) → Type 0
FirstPair zs None = (n : ℕ) → read_pairs n zs ≡ []
FirstPair zs (Some p) = (are_ticks (pos p.0.ticks) ≡ true) × (zs ≡ pos p.0.ticks ∷ p.0.value ∷ p.1.now)

-- what is still to be played from a position
abbrev pub future : List Segment → Position → List ℤ
future segments p = flat (p.present ∷ drop p.later segments)

abbrev pub held_at : List Segment → Position → Held ℤ
held_at segments p = record { state = future segments p; inputs = [] }

-- the position from which all pairs are still to be played, if there is one
abbrev pub StartsAt : List Segment → Option Position → Type 0
StartsAt segments None = segments ≡ []
StartsAt segments (Some p) = future segments p ≡ flat segments
