-- Reading pairs from a list, one pair a turn.
use Rattle.std.proofs.Common.{◌≡◌, ℕ, suc, true, ◌<◌, ◌-◌, List, [], ◌∷◌, ◌++◌, length, ℤ, pos, refl, ap, append_assoc, arith, length-append}
use Rattle.trip_rig.specs.declared.trip.Segment.{Segment}
use Rattle.trip_rig.specs.Reading.{are_ticks, read_pairs}
use Rattle.trip_rig.specs.Trips.{flat}

flat_push : (ls : List Segment) (l : Segment) → flat (ls ++ l ∷ []) ≡ flat ls ++ (pos l.ticks ∷ l.value ∷ [])
flat_push [] l = refl
flat_push (x ∷ ls) l = ap (λ zs. pos x.ticks ∷ x.value ∷ zs) (flat_push ls l)

-- one pair more
pub one_more : (n : ℕ) (ls : List Segment) (l : Segment) (later : List ℤ) → length ls < n → are_ticks (pos l.ticks) ≡ true
    → flat (ls ++ l ∷ []) ++ read_pairs (n - length (ls ++ l ∷ [])) later ≡ flat ls ++ read_pairs (n - length ls) (pos l.ticks ∷ l.value ∷ later)
one_more n ls l later room proper =
    let left = n - length (ls ++ l ∷ []) in
    let m : n - length ls ≡ suc left = omega (arith, length-append ls (l ∷ [])) in
    rw m (rw proper (rw (flat_push ls l) (append_assoc (flat ls) (pos l.ticks ∷ l.value ∷ []) (read_pairs left later))))
