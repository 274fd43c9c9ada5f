-- The fields of a line, judged one by one from the left: each is taken, or the line is refused for it.
use Rattle.std.specs.Prelude.{ℕ, ◌-◌, cond, ◌&&◌, List, [], length, ℤ, Some, None, Err, Option, Result, ◌==◌, int_le, nat_lt, slice_index_or}
use Rattle.fields.specs.Parts.{parts}
use Rattle.names.specs.Naming.{is_name}
use Rattle.numerals.specs.Numbers.{number_of}
use Rattle.lines.specs.declared.fault.LineFault.{LineFault}
use Rattle.lines.specs.declared.fault.LineFault.TheVariants.{FieldCount, TooManyUnits, NotName, NameUsed, NoUnit, NotNumber}
use Rattle.lines.specs.Known.{unit_named}

-- commas (44) part the fields of a line; they are numbered from 1
abbrev pub fields : List ℕ → List (List ℕ)
fields line = parts 44 line

-- field k, empty where there is none
abbrev pub field : ℕ → List ℕ → List ℕ
field k line = slice_index_or (fields line) (k - 1) []

-- a line of n fields
abbrev pub if_count : {T : Type 0} → ℕ → List ℕ → Result T LineFault → Result T LineFault
if_count n line next = cond (length (fields line) == n) next (Err FieldCount)

-- room for one more unit
abbrev pub if_room : {T : Type 0} → List (List ℕ) → Result T LineFault → Result T LineFault
if_room known next = cond (nat_lt (length known) 16) next (Err TooManyUnits)

-- field k is a name
abbrev pub if_name : {T : Type 0} → ℕ → List ℕ → Result T LineFault → Result T LineFault
if_name k line next = cond (is_name (field k line)) next (Err (NotName k))

-- field k is a name that no unit has
abbrev pub unless_used : {T : Type 0} → ℕ → Option ℕ → Result T LineFault → Result T LineFault
unless_used k None next = next
unless_used k (Some u) next = Err (NameUsed k)

abbrev pub if_new : {T : Type 0} → List (List ℕ) → ℕ → List ℕ → Result T LineFault → Result T LineFault
if_new known k line next = if_name k line (unless_used k (unit_named known (field k line)) next)

-- field k is the name of a unit, with that unit's number
abbrev pub by_unit : {T : Type 0} → ℕ → Option ℕ → (ℕ → Result T LineFault) → Result T LineFault
by_unit k None next = Err (NoUnit k)
by_unit k (Some u) next = next u

abbrev pub if_known : {T : Type 0} → List (List ℕ) → ℕ → List ℕ → (ℕ → Result T LineFault) → Result T LineFault
if_known known k line next = if_name k line (by_unit k (unit_named known (field k line)) next)

-- field k is a number
abbrev pub by_number : {T : Type 0} → ℕ → Option ℤ → (ℤ → Result T LineFault) → Result T LineFault
by_number k None next = Err (NotNumber k)
by_number k (Some z) next = next z

abbrev pub if_number : {T : Type 0} → ℕ → List ℕ → (ℤ → Result T LineFault) → Result T LineFault
if_number k line next = by_number k (number_of (field k line)) next

-- field k is a number from low to high
abbrev pub within : ℤ → ℤ → Option ℤ → Option ℤ
within low high None = None
within low high (Some z) = cond (int_le low z && int_le z high) (Some z) None

abbrev pub if_within : {T : Type 0} → ℤ → ℤ → ℕ → List ℕ → (ℤ → Result T LineFault) → Result T LineFault
if_within low high k line next = by_number k (within low high (number_of (field k line))) next
