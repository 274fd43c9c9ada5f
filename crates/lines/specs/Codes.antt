-- Refusals of a file by their numbers. They are of layer 1; a is the line, b the field, 0 where the fault has none.
use Rattle.std.specs.Prelude.{ℕ, Some, None, Option}
use Rattle.std.specs.Option.{unwrap_or}
use Rattle.refusal.specs.declared.Code.{Code}
use Rattle.lines.specs.declared.fault.LineFault.{LineFault}
use Rattle.lines.specs.declared.fault.LineFault.TheVariants.{FirstLine, Letter, FieldCount, TooManyUnits, NotName, NameUsed, NoUnit, NotNumber, Disagree, WiredTwice}
use Rattle.lines.specs.declared.fault.FileFault.{FileFault}

-- the number of each cause
abbrev pub fault_number : LineFault → ℕ
fault_number FirstLine = 10
fault_number Letter = 11
fault_number FieldCount = 12
fault_number (NotNumber k) = 13
fault_number Disagree = 13
fault_number (NotName k) = 14
fault_number (NameUsed k) = 15
fault_number TooManyUnits = 16
fault_number (NoUnit k) = 17
fault_number WiredTwice = 19

-- the field that is at fault, where it is one field alone
abbrev pub field_of : LineFault → Option ℕ
field_of FirstLine = None
field_of Letter = None
field_of FieldCount = None
field_of (NotNumber k) = Some k
field_of Disagree = None
field_of (NotName k) = Some k
field_of (NameUsed k) = Some k
field_of TooManyUnits = None
field_of (NoUnit k) = Some k
field_of WiredTwice = None

-- b
abbrev pub fault_field : LineFault → ℕ
fault_field e = unwrap_or (field_of e) 0

-- the four numbers of a refusal
abbrev pub code_of : FileFault → Code
code_of f = record { number = fault_number f.fault; layer = 1; a = f.line; b = fault_field f.fault }
