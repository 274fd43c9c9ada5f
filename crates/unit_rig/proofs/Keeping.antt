-- A unit with one place set, by save or by free.
use Rattle.std.proofs.Common.{◌≡◌, ℕ, zero, suc, Bool, true, List, [], ◌∷◌, set, Option, refl, arith}
use Rattle.std.proofs.lemmas.List.{get_or-map, map-set}
use Rattle.unit_rig.specs.Own.{own_in, all_own}

-- all places keep contents of the unit's own
pub own_set : {C : Type 0} (owns : C → Bool) (ps : List (Option C)) (p : ℕ) (o : Option C) → all_own owns ps ≡ true → own_in owns o ≡ true → all_own owns (set ps p o) ≡ true
own_set owns [] p o e d = refl
own_set owns (q ∷ ps) zero o e d = grind arith
own_set owns (q ∷ ps) (suc p) o e d = grind (arith, own_set owns ps p o)

-- with a place read and set in a mapped list, all that save and free of a unit need
pub ruleset place_set = (own_set, get_or-map, map-set)
