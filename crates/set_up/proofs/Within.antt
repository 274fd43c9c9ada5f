-- Where causes can hold, and that none is left out.
use Rattle.std.proofs.Common.{◌≡◌, ℕ, ◌+◌, ◌<◌, ◌≤◌, List, [], length, get_or, Some, None, sym, ap, ◌∙◌, ⊎_elim, arith}
use Rattle.std.proofs.lemmas.Bool.{cases_eq, cases_lt}
use Rattle.std.proofs.lemmas.List.{get_or_past, length-map, get_or-map, get_or-replicate}
use Rattle.std.proofs.lemmas.Option.{slice_get_within}
use Rattle.rig.specs.Units.{RigUnit}
use Rattle.wiring.specs.declared.port.Port.{Port}
use Rattle.wiring.specs.declared.table.Wiring.{Wiring}
use Rattle.wiring.specs.Wires.{source_of}
use Rattle.set_up.specs.Causes.{IsInUse, IsLacking}

-- no unit is in use where none of the rig's is
pub none_used : {S : Type 0} (us : List (RigUnit S)) → ((u : ℕ) → u < length us → IsInUse us u → ⊥) → (u : ℕ) → IsInUse us u → ⊥
none_used us none u i = none u (slice_get_within us u i.unit i.there) i

-- of 16 units of 8 ports, those of one more
pub unit_done : (P : Port → Type 0) (u : ℕ) → ((to : Port) → P to → to.port < 8) → ((to : Port) → to.unit < u → P to → ⊥)
    → ((to : Port) → to.unit ≡ u → to.port < 8 → P to → ⊥) → (to : Port) → to.unit < u + 1 → P to → ⊥
unit_done P u within below here to lt p = ⊎_elim (λ (e : to.unit ≡ u). here to e (within to p) p) (λ (ne : to.unit ≡ u → ⊥). below to (omega arith) p) (cases_eq to.unit u)

module _ (w : Wiring) where
  sixteen : length w.rows ≡ 16
  sixteen = sym (length-map w.rows length) ∙ ap length w.full

  eight : (u : ℕ) → u < 16 → length (get_or w.rows u []) ≡ 8
  eight u l =
      let n = sixteen in
      sym (get_or-map length w.rows u [] 0 (omega arith)) ∙ ap (λ ns. get_or ns u 0) w.full ∙ get_or-replicate 16 u 8 0 (omega arith)

  -- only inputs of the table are wired
  pub wired_within : (u i : ℕ) (from : Port) → source_of w u i ≡ Some from → (u < 16) × (i < 8)
  wired_within u i from e =
      let n = sixteen in
      let inside : u < 16 = ⊎_elim (λ l. l) (λ (past : 16 ≤ u). let q = get_or_past w.rows u [] (omega arith) in let z : None ≡ Some from = sym (ap (λ row. get_or row i None) q) ∙ e in cc) (cases_lt u 16) in
      let m = eight u inside in
      (inside, ⊎_elim (λ l. l) (λ (past : 8 ≤ i). let q = get_or_past (get_or w.rows u []) i None (omega arith) in let z : None ≡ Some from = sym q ∙ e in cc) (cases_lt i 8))

pub lacking_within : {S : Type 0} (us : List (RigUnit S)) (w : Wiring) (to : Port) → IsLacking us w to → (to.unit < 16) × (to.port < 8)
lacking_within us w to l = wired_within w to.unit to.port l.from l.wire
