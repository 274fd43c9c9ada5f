-- What loading a file answers, and what the table that it fills holds then.
use Rattle.std.specs.Prelude.{◌≡◌, ℕ, List, [], ◌∷◌, ◌++◌, map, Ok, Err, Result}
use Rattle.file_rig.specs.declared.table.FileRig.{FileRig}
use Rattle.file_rig.specs.Table.{units_of, names_of}
use Rattle.file_rig.specs.Adding.{new_unit}
use Rattle.wiring.specs.declared.table.Wiring.{Wiring}
use Rattle.wiring.specs.Wires.{source_of}
use Rattle.lines.specs.declared.fault.FileFault.{FileFault}
use Rattle.lines.specs.UnitLines.{UnitSaid}
use Rattle.lines.specs.WireLines.{Wire}
use Rattle.grammar.specs.Texts.{ProperCap}
use Rattle.grammar.specs.Files.{names_said, units_file, supplier, wires_file}
use Rattle.grammar.specs.Laws.{units_text, ProperUnits}
use Rattle.load.specs.declared.fault.LoadFault.{LoadFault}
use Rattle.load.specs.declared.fault.LoadFault.TheVariants.{Refused, NoMemory}

-- a rig has exactly these units, each new, in the order of their lines
pub record HoldsUnits (rig : FileRig) (us : List UnitSaid) : Type 0 where
  pub units : units_of rig ≡ map (λ u. new_unit u.design) us
  pub names : names_of rig ≡ names_said us

-- a file begins with the text of a cap and of units, and this is the rest of it
pub record Begins (bytes : List ℕ) (most : ℕ) (us : List UnitSaid) (rest : List ℕ) : Type 0 where
  pub text : units_text most us ++ rest ≡ bytes
  pub cap : ProperCap most
  pub units : ProperUnits us

-- memory is asked for once a line has said a unit: the file begins with the text of a cap and of one unit at least
abbrev pub MemoryAsked : List ℕ → Type 0
MemoryAsked bytes = (most : ℕ) × (us : List UnitSaid) × (u : UnitSaid) × (rest : List ℕ) × Begins bytes most (us ++ u ∷ []) rest

-- the rig as a units file says, and its cap; or no unit, and the first line that cannot be read
abbrev pub UnitsLoaded : List ℕ → Result ℕ LoadFault → FileRig → Type 0
UnitsLoaded bytes (Ok n) rig = (us : List UnitSaid) × (units_file bytes ≡ Ok (record { most = n; units = us })) × HoldsUnits rig us
UnitsLoaded bytes (Err (Refused f)) rig = (units_file bytes ≡ Err f) × HoldsUnits rig []
UnitsLoaded bytes (Err NoMemory) rig = MemoryAsked bytes × HoldsUnits rig []

-- a wiring has exactly these wires
abbrev pub HoldsWires : Wiring → List Wire → Type 0
HoldsWires w ws = (u i : ℕ) → source_of w u i ≡ supplier ws (record { unit = u; port = i })

-- the wiring as a wires file says; or no wire, and the first line that cannot be read
abbrev pub WiresLoaded : List (List ℕ) → List ℕ → Result (Unit {0}) FileFault → Wiring → Type 0
WiresLoaded known bytes (Ok r) w = (ws : List Wire) × (wires_file known bytes ≡ Ok ws) × HoldsWires w ws
WiresLoaded known bytes (Err f) w = (wires_file known bytes ≡ Err f) × HoldsWires w []
