-- Worked cases of reading: which cause of a line counts, and a file as it is read.
use Rattle.std.specs.Prelude.{◌≡◌, ◌++◌, [], ◌∷◌, negsuc, Ok, Err, codes}
use Rattle.kinds.specs.declared.design.Design.TheVariants.{Constant}
use Rattle.lines.specs.declared.fault.LineFault.TheVariants.{Letter, NotNumber, NameUsed, NoUnit, WiredTwice}
use Rattle.lines.specs.UnitLines.{unit_line}
use Rattle.lines.specs.WireLines.{wire_line}
use Rattle.grammar.specs.Files.{fault_at, units_file, wires_file}

pub record ReadingCases : Type 0 where
  -- a used name before a field that is no number, and a name that no unit has before a port that is none
  pub used : unit_line (codes "used" ∷ []) (codes "K,used,x") ≡ Err (NameUsed 2)
  pub nobody : wire_line (codes "a" ∷ []) (codes "W,nobody,9,a,0") ≡ Err (NoUnit 2)
  -- a number out of its range before two fields that disagree
  pub late : unit_line [] (codes "I,a,9,10,20,0") ≡ Err (NotNumber 6)
  -- letters are capitals, and W is the only one of a wires file
  pub small : unit_line [] (codes "k,a,1") ≡ Err Letter
  pub other : wire_line [] (codes "A,a,b") ≡ Err Letter
  -- a cap and a unit, and the same without the last line feed
  pub file : units_file (codes "UNITS,1,5" ++ 10 ∷ codes "K,a,-7" ++ 10 ∷ []) ≡ Ok (record { most = 5; units = record { name = codes "a"; design = Constant (negsuc 6) } ∷ [] })
  pub rest : units_file (codes "UNITS,1,5" ++ 10 ∷ codes "K,a,-7") ≡ Err (fault_at 2 Letter)
  -- the second wire to an input
  pub twice : wires_file (codes "a" ∷ []) (codes "WIRES,1" ++ 10 ∷ codes "W,a,0,a,0" ++ 10 ∷ codes "W,a,1,a,0" ++ 10 ∷ []) ≡ Err (fault_at 3 WiredTwice)
