-- The table of a wiring: reading past it, and writing one wire into it.
use Rattle.std.proofs.Common.{◌≡◌, ℕ, ◌<◌, ◌≤◌, ◌⊎◌, List, [], map, length, get_or, set, replicate, Some, None, Option, sym, ap, ◌∙◌, inl, inr, arith}
use Rattle.std.proofs.lemmas.List.{length-map, get_or-map, get_or-replicate, get_or_past, get_or-set_same, get_or-set_other, length-set, map-set, set-get_or}
use Rattle.std.proofs.lemmas.Bool.{cases_eq}
use Rattle.wiring.specs.declared.port.Port.{Port}
use Rattle.wiring.specs.declared.table.Wiring.{Wiring}
use Rattle.wiring.specs.Wires.{source_of, InRange, OneMore}

-- the row of unit u
abbrev row_of : Wiring → ℕ → List (Option Port)
row_of w u = get_or w.rows u []

-- the input's row, and all rows, with one wire written
abbrev wired_row : Wiring → Port → Port → List (Option Port)
wired_row w from to = set (row_of w to.unit) to.port (Some from)

abbrev wired_rows : Wiring → Port → Port → List (List (Option Port))
wired_rows w from to = set w.rows to.unit (wired_row w from to)

module _ (w : Wiring) where
  -- there are 16 rows, of 8 places each
  sixteen : length w.rows ≡ 16
  sixteen = sym (length-map w.rows length) ∙ ap length w.full

  length_row : (u : ℕ) → u ≤ 15 → get_or (map length w.rows) u 0 ≡ length (row_of w u)
  length_row u l = let n = sixteen in get_or-map length w.rows u [] 0 (omega arith)

  eight : (u : ℕ) → u ≤ 15 → length (row_of w u) ≡ 8
  eight u l = sym (length_row u l) ∙ ap (λ ns. get_or ns u 0) w.full ∙ get_or-replicate 16 u 8 0 (omega arith)

  -- past the table there is no wire
  pub past_table : (u i : ℕ) → (15 < u) ⊎ ((u ≤ 15) × (7 < i)) → source_of w u i ≡ None
  past_table u i (inl l) = let n = sixteen in ap (λ row. get_or row i None) (get_or_past w.rows u [] (omega arith))
  past_table u i (inr (l, m)) = let n = eight u l in get_or_past (row_of w u) i None (omega arith)

  module _ (from to : Port) (range : InRange from to) where
    -- the table is as large as it was
    pub still_full : map length (wired_rows w from to) ≡ replicate 16 8
    still_full =
        map-set length w.rows to.unit (wired_row w from to)
        ∙ ap (set (map length w.rows) to.unit) (length-set (row_of w to.unit) to.port (Some from) ∙ sym (length_row to.unit range.to_unit))
        ∙ set-get_or (map length w.rows) to.unit 0
        ∙ w.full

    module _ (after : Wiring) (e : after.rows ≡ wired_rows w from to) where
      -- the input's row, and any other
      this_row : row_of after to.unit ≡ wired_row w from to
      this_row =
          let n = sixteen in
          ap (λ rows. get_or rows to.unit []) e ∙ get_or-set_same w.rows to.unit (wired_row w from to) [] (omega arith)

      other_row : (u : ℕ) → (u ≡ to.unit → ⊥) → row_of after u ≡ row_of w u
      other_row u ne = ap (λ rows. get_or rows u []) e ∙ get_or-set_other w.rows to.unit u (wired_row w from to) [] ne

      -- another input of the same unit, and one of another unit
      other_input : (u i : ℕ) → (u ≡ to.unit → i ≡ to.port → ⊥) → (u ≡ to.unit) ⊎ (u ≡ to.unit → ⊥) → source_of after u i ≡ source_of w u i
      other_input u i other (inl same) =
          ap (λ v. source_of after v i) same ∙ ap (λ row. get_or row i None) this_row
          ∙ get_or-set_other (row_of w to.unit) to.port i (Some from) None (other same) ∙ ap (λ v. source_of w v i) (sym same)
      other_input u i other (inr ne) = ap (λ row. get_or row i None) (other_row u ne)

      -- the input has the wire, and no other changed
      pub one_more : OneMore w from to after
      one_more =
          let n = eight to.unit range.to_unit in
          record {
            wired = ap (λ row. get_or row to.port None) this_row ∙ get_or-set_same (row_of w to.unit) to.port (Some from) None (omega arith);
            others = λ u i other. other_input u i other (cases_eq u to.unit);
          }
