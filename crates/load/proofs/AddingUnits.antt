-- Units added line by line.
use Rattle.std.proofs.Common.{◌≡◌, ℕ, ◌+◌, List, [], ◌∷◌, ◌++◌, length, Ok, Err, sym, refl, ap, ◌∙◌, arith}
use Rattle.std.proofs.lemmas.List.{map_push}
use Rattle.std.proofs.lemmas.Bool.{true≢false}
use Rattle.kinds.specs.declared.design.Design.{Design}
use Rattle.kinds.specs.Designs.{design_fault}
use Rattle.file_rig.specs.declared.table.FileRig.{FileRig}
use Rattle.file_rig.specs.declared.table.fault.AddFault.{AddFault}
use Rattle.file_rig.specs.declared.table.fault.AddFault.TheVariants.{TableFull, BadName, NameUsed, BadDesign, NoMemory}
use Rattle.file_rig.specs.Table.{names_of}
use Rattle.file_rig.specs.Adding.{Extended, Added, new_unit}
use Rattle.lines.specs.UnitLines.{UnitSaid, unit_line}
use Rattle.files.specs.Positions.{Position, ahead, passed}
use Rattle.grammar.specs.Texts.{ProperUnit}
use Rattle.grammar.specs.Files.{lines_from, judge_unit, names_said}
use Rattle.grammar.proofs.Accepted.{not_some}
use Rattle.load.specs.Loaded.{HoldsUnits}
use Rattle.load.proofs.Reading.{LineAhead, lines_on}

-- a proper unit is refused only for want of memory
pub only_memory : (before after : FileRig) (u : UnitSaid) (name : List ℕ) (d : Design) → name ≡ u.name → d ≡ u.design → ProperUnit (names_of before) u
    → (e : AddFault) → Added before name d (Err e) after → (e ≡ NoMemory → ⊥) → ⊥
only_memory before after u name d en ed p TableFull a not = omega (arith, a.0, p.room)
only_memory before after u name d en ed p BadName a not = let b = a.1 in let t = p.name in true≢false cc
only_memory before after u name d en ed p NameUsed a not = p.new a.1.0 a.1.1.0 (a.1.1.1 ∙ en)
only_memory before after u name d en ed p (BadDesign f) a not = not_some (sym p.ranges ∙ (ap design_fault (sym ed) ∙ a.1))
only_memory before after u name d en ed p NoMemory a not = not refl

-- one unit more in the rig, and one more among those that the lines said
pub held_more : (before after : FileRig) (us : List UnitSaid) (u : UnitSaid) → HoldsUnits before us → Extended before u.name (new_unit u.design) after → HoldsUnits after (us ++ u ∷ [])
held_more before after us u h m = record {
  units = m.units ∙ (ap (λ xs. xs ++ new_unit u.design ∷ []) h.units ∙ sym (map_push (λ x. new_unit x.design) us u));
  names = m.names ∙ (ap (λ xs. xs ++ u.name ∷ []) h.names ∙ sym (map_push (λ x. x.name) us u));
}

-- the lines from a line on, once it is read
pub units_on : (known : List (List ℕ)) (us : List UnitSaid) (u : UnitSaid) (p : Position) → known ≡ names_said us → (a : LineAhead (unit_line known) p u)
    → lines_from judge_unit p.line us (ahead p) ≡ lines_from judge_unit (p.line + 1) (us ++ u ∷ []) (ahead (passed p (length a.text)))
units_on known us u p e a = lines_on judge_unit us a (Ok u) (ap (λ k. unit_line k a.text) (sym e) ∙ a.judged)
