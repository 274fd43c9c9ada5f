-- Contents that are a unit's own.
use Rattle.std.specs.Prelude.{Bool, true, ◌&&◌, List, [], ◌∷◌, Some, None, Option}

-- contents, if there are any, are the unit's own
abbrev pub own_in : {C : Type 0} → (C → Bool) → Option C → Bool
own_in owns None = true
own_in owns (Some c) = owns c

-- so are those of every place
abbrev pub all_own : {C : Type 0} → (C → Bool) → List (Option C) → Bool
all_own owns [] = true
all_own owns (o ∷ os) = own_in owns o && all_own owns os
