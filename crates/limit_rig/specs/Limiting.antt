-- The units under a limit, told from those below: how many there are, each of them, and what a write below makes of them.
use Rattle.std.specs.Prelude.{◌≡◌, ℕ, zero, suc, ◌<◌, ◌≤◌, Bool, false, List, [], ◌∷◌, length, slice_index_or, slice_set, refl}
use Rattle.std.proofs.Common.{ap, arith}
use Rattle.std.specs.List.{slice_get}
use Rattle.std.specs.Option.{option_map}
use Rattle.rig.specs.Units.{RigUnit}
use Rattle.rig.specs.Laws.{Sound}
use Rattle.rig.proofs.Calling.{set_nth}
use Rattle.limit_rig.specs.Limits.{unit_under, units_under}

-- as many units as below
pub length_under : {S : Type 0} (m : ℕ) (fs : List Bool) (us : List (RigUnit S)) → length (units_under m fs us) ≡ length us
length_under m [] [] = refl
length_under m (f ∷ fs) [] = refl
length_under m [] (x ∷ us) = ap suc (length_under m [] us)
length_under m (f ∷ fs) (x ∷ us) = ap suc (length_under m fs us)

-- unit u, by its flag
pub nth_under : {S : Type 0} (m : ℕ) (fs : List Bool) (us : List (RigUnit S)) (u : ℕ) → slice_get (units_under m fs us) u ≡ option_map (unit_under m (slice_index_or fs u false)) (slice_get us u)
nth_under m [] [] u = refl
nth_under m (f ∷ fs) [] u = refl
nth_under m [] (x ∷ us) zero = refl
nth_under m [] (x ∷ us) (suc u) = nth_under m [] us u
nth_under m (f ∷ fs) (x ∷ us) zero = refl
nth_under m (f ∷ fs) (x ∷ us) (suc u) = nth_under m fs us u

-- a write below, the flag kept
pub set_below : {S : Type 0} (m : ℕ) (fs : List Bool) (us : List (RigUnit S)) (u : ℕ) (y : RigUnit S) → units_under m fs (slice_set us u y) ≡ slice_set (units_under m fs us) u (unit_under m (slice_index_or fs u false) y)
set_below m [] [] u y = refl
set_below m (f ∷ fs) [] u y = refl
set_below m [] (x ∷ us) zero y = refl
set_below m [] (x ∷ us) (suc u) y = ap (λ z. unit_under m false x ∷ z) (set_below m [] us u y)
set_below m (f ∷ fs) (x ∷ us) zero y = refl
set_below m (f ∷ fs) (x ∷ us) (suc u) y = ap (λ z. unit_under m f x ∷ z) (set_below m fs us u y)

-- a write below, with a new flag: where the unit has a flag, and where every unit has one
set_with_flag : {S : Type 0} (m : ℕ) (fs : List Bool) (us : List (RigUnit S)) (u : ℕ) (g : Bool) (y : RigUnit S) → u < length fs
    → units_under m (slice_set fs u g) (slice_set us u y) ≡ slice_set (units_under m fs us) u (unit_under m g y)
set_with_flag m [] us u g y h = absurd (omega arith)
set_with_flag m (f ∷ fs) [] zero g y h = refl
set_with_flag m (f ∷ fs) [] (suc u) g y h = refl
set_with_flag m (f ∷ fs) (x ∷ us) zero g y h = refl
set_with_flag m (f ∷ fs) (x ∷ us) (suc u) g y h = ap (λ z. unit_under m f x ∷ z) (set_with_flag m fs us u g y (omega arith))

set_with_flags : {S : Type 0} (m : ℕ) (fs : List Bool) (us : List (RigUnit S)) (u : ℕ) (g : Bool) (y : RigUnit S) → length us ≤ length fs
    → units_under m (slice_set fs u g) (slice_set us u y) ≡ slice_set (units_under m fs us) u (unit_under m g y)
set_with_flags m [] [] u g y h = refl
set_with_flags m (f ∷ fs) [] zero g y h = refl
set_with_flags m (f ∷ fs) [] (suc u) g y h = refl
set_with_flags m [] (x ∷ us) u g y h = absurd (omega arith)
set_with_flags m (f ∷ fs) (x ∷ us) zero g y h = refl
set_with_flags m (f ∷ fs) (x ∷ us) (suc u) g y h = ap (λ z. unit_under m f x ∷ z) (set_with_flags m fs us u g y (omega arith))

pub set_flagged : {S : Type 0} (m : ℕ) (fs : List Bool) (us : List (RigUnit S)) (u : ℕ) (g : Bool) (y : RigUnit S) → Sound us → length fs ≡ 16
    → units_under m (slice_set fs u g) (slice_set us u y) ≡ slice_set (units_under m fs us) u (unit_under m g y)
set_flagged m fs us u g y s w = set_with_flags m fs us u g y (omega (arith, s.few))

-- what the proofs of the calls under a limit go by
pub ruleset limiting = (length_under, nth_under, set_below, set_flagged, set_nth)
