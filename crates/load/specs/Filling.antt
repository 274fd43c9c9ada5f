-- Loading in parts: one line added, and a table filled up to the first line that cannot be read.
use Rattle.std.specs.Prelude.{◌≡◌, ℕ, ◌≤◌, List, length, Some, None, Ok, Err, Result}
use Rattle.file_rig.specs.declared.table.FileRig.{FileRig}
use Rattle.file_rig.specs.Adding.{new_unit, Unchanged, Extended}
use Rattle.wiring.specs.declared.port.Port.{Port}
use Rattle.wiring.specs.declared.table.Wiring.{Wiring}
use Rattle.wiring.specs.Wires.{source_of, OneMore}
use Rattle.lines.specs.declared.fault.LineFault.{LineFault}
use Rattle.lines.specs.declared.fault.LineFault.TheVariants.{WiredTwice}
use Rattle.lines.specs.declared.fault.FileFault.{FileFault}
use Rattle.lines.specs.declared.wire.WireLine.{WireLine}
use Rattle.lines.specs.UnitLines.{UnitSaid}
use Rattle.lines.specs.WireLines.{Wire, Names}
use Rattle.grammar.specs.Texts.{ProperWire}
use Rattle.grammar.specs.Files.{units_file, wires_file}
use Rattle.load.specs.declared.fault.LoadFault.{LoadFault}
use Rattle.load.specs.declared.fault.LoadFault.TheVariants.{Refused, NoMemory}
use Rattle.load.specs.Loaded.{HoldsUnits, MemoryAsked, HoldsWires}

-- a line was added; or there was no memory for it, and the table is as it was
abbrev pub LineAdded : FileRig → UnitSaid → Result (Unit {0}) LoadFault → FileRig → Type 0
LineAdded before u (Ok r) after = Extended before u.name (new_unit u.design) after
LineAdded before u (Err e) after = (e ≡ NoMemory) × Unchanged before after

-- a rig filled by a whole file, or up to the first line that cannot be read
abbrev pub UnitsFilled : List ℕ → Result ℕ LoadFault → FileRig → Type 0
UnitsFilled bytes (Ok n) rig = (us : List UnitSaid) × (units_file bytes ≡ Ok (record { most = n; units = us })) × HoldsUnits rig us
UnitsFilled bytes (Err (Refused f)) rig = units_file bytes ≡ Err f
UnitsFilled bytes (Err NoMemory) rig = MemoryAsked bytes

-- a line of a wires file names units that are there, and ports that a wiring has
abbrev pub Resolves : List (List ℕ) → WireLine → Type 0
Resolves known line = (length known ≤ 16) × ((w : Wire) × Names known line w × ProperWire known w)

-- a wire was added; or its input is wired already, and the wiring is as it was
abbrev pub WireAdded : Wiring → Wire → Result (Unit {0}) LineFault → Wiring → Type 0
WireAdded before w (Ok r) after = (source_of before w.to.unit w.to.port ≡ None) × OneMore before w.from w.to after
WireAdded before w (Err e) after = (e ≡ WiredTwice) × ((p : Port) × (source_of before w.to.unit w.to.port ≡ Some p)) × (after ≡ before)

-- a wiring filled by a whole file, or up to the first line that cannot be read
abbrev pub WiresFilled : List (List ℕ) → List ℕ → Result (Unit {0}) FileFault → Wiring → Type 0
WiresFilled known bytes (Ok r) w = (ws : List Wire) × (wires_file known bytes ≡ Ok ws) × HoldsWires w ws
WiresFilled known bytes (Err f) w = wires_file known bytes ≡ Err f
