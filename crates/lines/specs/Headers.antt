-- The first lines: UNITS,1,cap and WIRES,1.
use Rattle.std.specs.Prelude.{ℕ, Bool, cond, ◌&&◌, List, length, pos, Some, None, codes, Option, ◌==◌, unsigned_abs}
use Rattle.std.specs.Option.{option_map}
use Rattle.numerals.specs.Numbers.{number_of}
use Rattle.lines.specs.Known.{same_text}
use Rattle.lines.specs.Fields.{fields, field, within}

-- the cap that the first line of a units file tells, 1 to 1,000,000
abbrev pub cap_of : List ℕ → Option ℕ
cap_of line = cond (length (fields line) == 3 && (same_text (field 1 line) (codes "UNITS") && same_text (field 2 line) (codes "1")))
    (option_map unsigned_abs (within (pos 1) (pos 1000000) (number_of (field 3 line)))) None

-- the first line of a wires file
abbrev pub is_wires : List ℕ → Bool
is_wires line = same_text line (codes "WIRES,1")

abbrev pub wires_head : List ℕ → Option (Unit {0})
wires_head line = cond (is_wires line) (Some tt) None
