-- How a caller's list is read as pairs: up to n of them, ending before a half pair and before one whose ticks are not 1 to 1,000,000.
use Rattle.std.specs.Prelude.{ℕ, zero, suc, Bool, cond, ◌&&◌, List, [], ◌∷◌, ℤ, pos, int_le}
use Rattle.rig.specs.Units.{RigUnit, fresh_unit}
use Rattle.trip_rig.specs.Playing.{trip}

abbrev pub are_ticks : ℤ → Bool
are_ticks t = int_le (pos 1) t && int_le t (pos 1000000)

abbrev pub read_pairs : ℕ → List ℤ → List ℤ
read_pairs zero zs = []
read_pairs (suc n) [] = []
read_pairs (suc n) (t ∷ []) = []
read_pairs (suc n) (t ∷ v ∷ zs) = cond (are_ticks t) (t ∷ v ∷ read_pairs n zs) []

-- a new trip: one unit in place with the whole list before it, all places empty; without a pair no unit
abbrev pub new_trip : List ℤ → List (RigUnit ℤ)
new_trip [] = []
new_trip (z ∷ zs) = fresh_unit trip (record { state = z ∷ zs; inputs = [] }) ∷ []
