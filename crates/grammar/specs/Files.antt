-- What a whole file says. A file is its lines, each ended by a line feed (10): a first line, and then lines that are judged in turn,
-- each by what those before it said. The first line that cannot be read is told.
use Rattle.std.specs.Prelude.{ℕ, ◌+◌, Bool, cond, ◌&&◌, List, [], ◌∷◌, ◌++◌, map, length, Some, None, Ok, Err, Option, Result, ◌==◌}
use Rattle.fields.specs.Parts.{parts}
use Rattle.wiring.specs.declared.port.Port.{Port}
use Rattle.lines.specs.declared.fault.LineFault.{LineFault}
use Rattle.lines.specs.declared.fault.LineFault.TheVariants.{FirstLine, Letter, WiredTwice}
use Rattle.lines.specs.declared.fault.FileFault.{FileFault}
use Rattle.lines.specs.UnitLines.{UnitSaid, unit_line}
use Rattle.lines.specs.WireLines.{Wire, wire_line}
use Rattle.lines.specs.Headers.{cap_of, wires_head}

-- a fault with its line
abbrev pub fault_at : ℕ → LineFault → FileFault
fault_at l e = record { line = l; fault = e }

-- a line that was judged, and what comes of the lines after it
abbrev pub onward : {T X : Type 0} → ℕ → Result T LineFault → (T → Result X FileFault) → Result X FileFault
onward l (Ok x) next = next x
onward l (Err e) next = Err (fault_at l e)

-- the lines from line l on, after lines that said these things; what follows the last line feed is to be empty
module _ {T : Type 0} (judge : List T → List ℕ → Result T LineFault) where
  abbrev pub lines_from : ℕ → List T → List (List ℕ) → Result (List T) FileFault
  lines_from l said [] = Ok said
  lines_from l said (rest ∷ []) = cond (length rest == 0) (Ok said) (Err (fault_at l Letter))
  lines_from l said (text ∷ next ∷ later) = onward l (judge said text) (λ x. lines_from (l + 1) (said ++ x ∷ []) (next ∷ later))

-- the first line, if it is as it should be and a line feed ends it, and what comes of the lines after it
abbrev pub if_first : {X T : Type 0} → Option X → (X → Result T FileFault) → Result T FileFault
if_first None next = Err (fault_at 1 FirstLine)
if_first (Some x) next = next x

-- a file as its first line and the lines after it
abbrev pub headed : {X T : Type 0} → (List ℕ → Option X) → (X → List (List ℕ) → Result T FileFault) → List (List ℕ) → Result T FileFault
headed head body [] = Err (fault_at 1 FirstLine)
headed head body (rest ∷ []) = Err (fault_at 1 FirstLine)
headed head body (first ∷ next ∷ later) = if_first (head first) (λ x. body x (next ∷ later))

-- a units file says a cap and units
pub record UnitsSaid : Type 0 where
  pub most : ℕ
  pub units : List UnitSaid

-- the names of units, by their numbers
abbrev pub names_said : List UnitSaid → List (List ℕ)
names_said us = map (λ u. u.name) us

-- a line after lines that said these units
abbrev pub judge_unit : List UnitSaid → List ℕ → Result UnitSaid LineFault
judge_unit before text = unit_line (names_said before) text

-- units under a cap
abbrev pub with_cap : ℕ → Result (List UnitSaid) FileFault → Result UnitsSaid FileFault
with_cap n (Ok us) = Ok (record { most = n; units = us })
with_cap n (Err f) = Err f

-- what a units file says, or the first line that cannot be read
abbrev pub units_file : List ℕ → Result UnitsSaid FileFault
units_file bytes = headed cap_of (λ n lines. with_cap n (lines_from judge_unit 2 [] lines)) (parts 10 bytes)

-- the output that supplies an input, by the wires that lead there
abbrev pub is_port : Port → Port → Bool
is_port p q = p.unit == q.unit && p.port == q.port

-- the first of the wires that lead to a port, by its output
abbrev pub supplier : List Wire → Port → Option Port
supplier [] p = None
supplier (w ∷ ws) p = cond (is_port w.to p) (Some w.from) (supplier ws p)

-- a wires file says wires, no two to the same input
abbrev pub if_unwired : Wire → Option Port → Result Wire LineFault
if_unwired w None = Ok w
if_unwired w (Some p) = Err WiredTwice

-- a wire that was read, unless its input has one
abbrev pub once_only : List Wire → Result Wire LineFault → Result Wire LineFault
once_only before (Ok w) = if_unwired w (supplier before w.to)
once_only before (Err e) = Err e

-- a line after lines that said these wires
abbrev pub judge_wire : List (List ℕ) → List Wire → List ℕ → Result Wire LineFault
judge_wire known before text = once_only before (wire_line known text)

-- what a wires file says, or the first line that cannot be read
abbrev pub wires_file : List (List ℕ) → List ℕ → Result (List Wire) FileFault
wires_file known bytes = headed wires_head (λ _ lines. lines_from (judge_wire known) 2 [] lines) (parts 10 bytes)
