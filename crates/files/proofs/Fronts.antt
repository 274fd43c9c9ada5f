-- The line at the cursor, by the first line feed of what is left of the file.
use Rattle.std.proofs.Common.{◌≡◌, ℕ, true, false, ◌==◌, suc, ◌+◌, ◌-◌, ◌≤◌, cond, List, [], ◌∷◌, length, take, drop, Some, None, Ok, Err, sym, refl, ap, ◌∙◌, arith}
use Rattle.std.proofs.lemmas.List.{take_rest, nil_from_length, length-take-le, length-drop}
use Rattle.std.proofs.lemmas.Bool.{eqb-true}
use Rattle.fields.specs.Parts.{parts, FirstAt}
use Rattle.fields.proofs.Parting.{parts_first, parts_none, some_part}
use Rattle.lines.specs.declared.fault.LineFault.TheVariants.{Letter}
use Rattle.files.specs.Positions.{Position, ahead, front_of}

pub front_line : (text : List ℕ) (later : List (List ℕ)) → 1 ≤ length later → front_of (text ∷ later) ≡ Some (Ok text)
front_line text [] h = absurd (omega arith)
front_line text (next ∷ later) h = refl

-- rest is what is left of the file, as a slice
module _ (p : Position) (rest : List ℕ) (is : rest ≡ take (length p.bytes - p.at) (drop p.at p.bytes)) where
  left : rest ≡ drop p.at p.bytes
  left = is ∙ take_rest p.bytes p.at

  pub front_end : true ≡ (length rest == 0) → None ≡ front_of (ahead p)
  front_end z = ap (λ s. front_of (parts 10 s)) (sym (nil_from_length rest (eqb-true (length rest) 0 (sym z))) ∙ left)

  pub front_found : (n : ℕ) → FirstAt 10 rest (Some n) → Some (Ok (take n rest)) ≡ front_of (ahead p)
  front_found n f =
      sym (front_line (take n rest) (parts 10 (drop (suc n) rest)) (some_part 10 (drop (suc n) rest)))
      ∙ (sym (ap front_of (parts_first 10 rest n f)) ∙ ap (λ s. front_of (parts 10 s)) left)

  pub front_cut : false ≡ (length rest == 0) → FirstAt 10 rest None → Some (Err Letter) ≡ front_of (ahead p)
  front_cut some f =
      sym (ap (λ t. cond t None (Some (Err Letter))) (sym some)) ∙ (sym (ap front_of (parts_none 10 rest f)) ∙ ap (λ s. front_of (parts 10 s)) left)

  pub line_fits : (n : ℕ) → p.at ≤ length p.bytes → FirstAt 10 rest (Some n) → p.at + length (take n rest) + 1 ≤ length p.bytes
  line_fits n inside f =
      let a : length (take n rest) ≡ n = length-take-le n rest (omega (arith, f.0)) in
      let b : length rest ≡ length p.bytes - p.at = ap length left ∙ length-drop p.at p.bytes in omega (arith, f.0)
