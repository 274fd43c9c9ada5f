-- A unit taken into a list of at most 16.
use Rattle.std.specs.Prelude.{◌≡◌, ℕ, ◌<◌, ◌≤◌, List, [], ◌∷◌, ◌++◌, length, Ok, Err, Result}
use Rattle.unit_rig.specs.declared.list.PushFault.{PushFault}
use Rattle.unit_rig.specs.declared.list.PushFault.TheVariants.{Full, NoMemory}

-- the unit stands at the end of the list, by its number; or the list is as it was
abbrev pub Pushed : {U : Type 0} → List U → U → Result ℕ PushFault → List U → Type 0
Pushed before x (Ok u) after = (length before < 16) × (u ≡ length before) × (after ≡ before ++ x ∷ [])
Pushed before x (Err Full) after = (16 ≤ length before) × (after ≡ before)
Pushed before x (Err NoMemory) after = (length before < 16) × (after ≡ before)
