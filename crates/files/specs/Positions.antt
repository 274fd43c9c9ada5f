-- Where a cursor stands in a file, and the line there.
use Rattle.std.specs.Prelude.{ℕ, ◌+◌, ◌≤◌, cond, List, [], ◌∷◌, length, drop, Some, None, Ok, Err, Option, Result, ◌==◌}
use Rattle.std.specs.Borrow.{Bor}
use Rattle.fields.specs.Parts.{parts}
use Rattle.lines.specs.declared.fault.LineFault.{LineFault}
use Rattle.lines.specs.declared.fault.LineFault.TheVariants.{Letter}
use Rattle.files.specs.declared.cursor.Cursor.{Cursor}

-- a place in the bytes of a file, and the number of the line that begins there
pub record Position : Type 0 where
  pub bytes : List ℕ
  pub at : ℕ
  pub line : ℕ

-- where a cursor stands
abbrev pub position_of : Cursor → Position
position_of c = record { bytes = c.bytes.now; at = c.at; line = c.line }

-- at the first line
abbrev pub start : List ℕ → Position
start bytes = record { bytes = bytes; at = 0; line = 1 }

-- what is left of the file, parted at line feeds (10): its lines, and last what follows the last line feed
abbrev pub ahead : Position → List (List ℕ)
ahead p = parts 10 (drop p.at p.bytes)

-- the first of these lines: none where nothing is left, a fault where something is left without a line feed
abbrev pub front_of : List (List ℕ) → Option (Result (List ℕ) LineFault)
front_of [] = None
front_of (rest ∷ []) = cond (length rest == 0) None (Some (Err Letter))
front_of (text ∷ next ∷ later) = Some (Ok text)

-- what was found at the cursor, its bytes read
abbrev pub text_read : Option (Result (Bor (List ℕ)) LineFault) → Option (Result (List ℕ) LineFault)
text_read None = None
text_read (Some (Ok text)) = Some (Ok text.now)
text_read (Some (Err e)) = Some (Err e)

-- a line lies with its line feed within the file
abbrev pub Fits : Position → Option (Result (List ℕ) LineFault) → Type 0
Fits p None = Unit {0}
Fits p (Some (Ok text)) = p.at + length text + 1 ≤ length p.bytes
Fits p (Some (Err e)) = Unit {0}

-- past a line of this length and its line feed
abbrev pub passed : Position → ℕ → Position
passed p n = record { bytes = p.bytes; at = p.at + n + 1; line = p.line + 1 }

-- at the end of the file, the number of the line kept
abbrev pub stopped : Position → Position
stopped p = record { bytes = p.bytes; at = length p.bytes; line = p.line }
