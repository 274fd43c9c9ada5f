-- What the table means: the units of the rig and their names.
use Rattle.std.specs.Prelude.{◌≡◌, ℕ, List, map, ℤ, vec_items, Option, Result}
use Rattle.std.specs.List.{slice_get}
use Rattle.names.specs.declared.name.Name.{Name}
use Rattle.rig.specs.declared.cause.RigFault.{RigFault}
use Rattle.rig.specs.Units.{RigUnit}
use Rattle.rig.specs.Calls.{Call, Called}
use Rattle.unit_rig.specs.Rigs.{units_in}
use Rattle.names.specs.Names.{text_of}
use Rattle.file_rig.specs.declared.table.FileRig.{FileRig}

-- each unit by the rules of its kind
abbrev pub units_of : FileRig → List (RigUnit ℤ)
units_of t = units_in t.table

abbrev pub labels_of : FileRig → List Name
labels_of t = map (λ x. x.label) (vec_items t.table.units)

abbrev pub names_of : FileRig → List (List ℕ)
names_of t = map text_of (labels_of t)

-- the call k of unit u was made, and every unit has the name that it had
pub record CalledUnderNames {T : Type 0} (k : Call ℤ T) (before : FileRig) (u : ℕ) (r : Result T RigFault) (after : FileRig) : Type 0 where
  pub call : Called k (units_of before) u r (units_of after)
  pub names : names_of after ≡ names_of before

-- the name of unit u
abbrev pub name_at : FileRig → ℕ → Option Name
name_at t u = slice_get (labels_of t) u
