-- Finding a unit by its name, and adding one: the first cause against it in its order, or the table with one unit more.
use Rattle.std.specs.Prelude.{◌≡◌, ℕ, ◌<◌, ◌≤◌, true, false, List, [], ◌∷◌, ◌++◌, length, ℤ, Some, None, Ok, Err, vec_items, Option, Result, ◌≢◌, slice_index_or}
use Rattle.rig.specs.Units.{RigUnit, fresh_unit}
use Rattle.kinds.specs.declared.design.Design.{Design}
use Rattle.kinds.specs.Contents.{rules_of}
use Rattle.kinds.specs.Designs.{design_fault, kind_as, held_as}
use Rattle.names.specs.Naming.{is_name}
use Rattle.file_rig.specs.declared.table.FileRig.{FileRig}
use Rattle.file_rig.specs.declared.table.fault.AddFault.{AddFault}
use Rattle.file_rig.specs.declared.table.fault.AddFault.TheVariants.{TableFull, BadName, NameUsed, BadDesign, NoMemory}
use Rattle.file_rig.specs.Table.{units_of, names_of}

-- the lowest unit with this name, if there is one
abbrev pub FoundAt : List (List ℕ) → List ℕ → Option ℕ → Type 0
FoundAt ns n None = (k : ℕ) → k < length ns → slice_index_or ns k [] ≢ n
FoundAt ns n (Some u) = (u < length ns) × (slice_index_or ns u [] ≡ n) × ((k : ℕ) → k < u → slice_index_or ns k [] ≢ n)

-- a new unit of a design
abbrev pub new_unit : Design → RigUnit ℤ
new_unit d = fresh_unit (rules_of (kind_as d)) (held_as d)

-- the table as it was, and with one unit more
abbrev pub Unchanged : FileRig → FileRig → Type 0
Unchanged before after = vec_items after.table.units ≡ vec_items before.table.units

pub record Extended (before : FileRig) (name : List ℕ) (x : RigUnit ℤ) (after : FileRig) : Type 0 where
  pub units : units_of after ≡ units_of before ++ x ∷ []
  pub names : names_of after ≡ names_of before ++ name ∷ []

-- the causes, each with those before it absent
abbrev pub Room : FileRig → Type 0
Room t = length (names_of t) < 16

abbrev pub Named : FileRig → List ℕ → Type 0
Named t name = Room t × (is_name name ≡ true)

abbrev pub Unused : FileRig → List ℕ → Type 0
Unused t name = Named t name × FoundAt (names_of t) name None

-- what adding a unit answers and leaves
abbrev pub Added : FileRig → List ℕ → Design → Result ℕ AddFault → FileRig → Type 0
Added before name d (Ok u) after = (u ≡ length (names_of before)) × Unused before name × (design_fault d ≡ None) × Extended before name (new_unit d) after
Added before name d (Err TableFull) after = (16 ≤ length (names_of before)) × Unchanged before after
Added before name d (Err BadName) after = Room before × (is_name name ≡ false) × Unchanged before after
Added before name d (Err NameUsed) after = Named before name × ((u : ℕ) × FoundAt (names_of before) name (Some u)) × Unchanged before after
Added before name d (Err (BadDesign e)) after = Unused before name × (design_fault d ≡ Some e) × Unchanged before after
Added before name d (Err NoMemory) after = Unused before name × (design_fault d ≡ None) × Unchanged before after
