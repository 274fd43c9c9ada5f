-- The units of two rigs as those of one.
use Rattle.std.specs.Prelude.{◌≡◌, ℕ, ◌+◌, ◌<◌, List, ◌++◌, take, length, None, Ok, Err, Result}
use Rattle.std.specs.List.{slice_get}
use Rattle.rig.specs.declared.cause.Cause.TheVariants.{NoSuch}
use Rattle.rig.specs.declared.cause.Target.{Target}
use Rattle.rig.specs.declared.cause.RigFault.{RigFault}
use Rattle.rig.specs.Units.{RigUnit}
use Rattle.pair_rig.specs.declared.pair.owner.Owner.{Owner}
use Rattle.pair_rig.specs.declared.pair.owner.Owner.TheVariants.{First, Second}

-- the units of the first rig, then those of the second, up to the sixteenth
abbrev pub joined : {S : Type 0} → List (RigUnit S) → List (RigUnit S) → List (RigUnit S)
joined firsts seconds = take 16 (firsts ++ seconds)

-- which rig has unit u, where the first has n units
abbrev pub Owns : ℕ → ℕ → Owner → Type 0
Owns n u First = (u < n) × (u < 16)
Owns n u (Second v) = (u ≡ n + v) × (u < 16)

-- the rig that has unit u of a pair, or the refusal where neither has it
abbrev pub Owned : {S : Type 0} → List (RigUnit S) → List (RigUnit S) → ℕ → Target → Result Owner RigFault → Type 0
Owned xs ys u t (Ok owner) = Owns (length xs) u owner
Owned xs ys u t (Err fault) = (slice_get (joined xs ys) u ≡ None) × (fault ≡ record { cause = NoSuch; unit = u; target = t })
