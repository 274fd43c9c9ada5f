-- Wires added line by line.
use Rattle.std.proofs.Common.{◌≡◌, ℕ, ◌+◌, ◌≤◌, Bool, true, false, cond, ◌&&◌, eqb, List, [], ◌∷◌, ◌++◌, length, Some, None, Ok, Err, vec_items, Option, Result, sym, refl, ap, ◌∙◌, subst, ⊎_elim, arith}
use Rattle.std.proofs.lemmas.Bool.{eq-eqb, ne_eqb, cases_eq}
use Rattle.std.proofs.lemmas.List.{length-map}
use Rattle.file_rig.specs.declared.table.FileRig.{FileRig}
use Rattle.file_rig.specs.Table.{labels_of, names_of}
use Rattle.names.specs.Names.{text_of}
use Rattle.wiring.specs.declared.port.Port.{Port}
use Rattle.wiring.specs.declared.table.Wiring.{Wiring}
use Rattle.wiring.specs.declared.fault.WireFault.{WireFault}
use Rattle.wiring.specs.declared.fault.WireFault.TheVariants.{OutOfRange}
use Rattle.wiring.specs.Wires.{source_of, InRange, OneMore, Added}
use Rattle.lines.specs.declared.fault.LineFault.TheVariants.{WiredTwice}
use Rattle.lines.specs.declared.fault.FileFault.{FileFault}
use Rattle.lines.specs.declared.wire.WireLine.{WireLine}
use Rattle.lines.specs.WireLines.{Wire, wire_line, NamedPort, IsEnd, source_said, target_said, Names}
use Rattle.lines.proofs.Naming.{found_named}
use Rattle.files.specs.Positions.{Position, ahead, passed}
use Rattle.files.specs.Reading.{answer_at, WireGiven}
use Rattle.grammar.specs.Texts.{ProperWire}
use Rattle.grammar.specs.Files.{fault_at, lines_from, is_port, supplier, if_unwired, once_only, judge_wire}
use Rattle.grammar.proofs.Accepted.{not_some}
use Rattle.load.specs.Loaded.{HoldsWires}
use Rattle.load.proofs.Reading.{LineAhead, line_ahead, lines_on}

-- an end that a line names, found by its name, is within 16 units of 8 ports
module _ (known : List (List ℕ)) (few : length known ≤ 16) where
  end_within : (said other : NamedPort) (p q : Port) → p.port ≤ 7 → IsEnd known said p → other ≡ said → IsEnd known other q → (q.unit ≤ 15) × (q.port ≤ 7)
  end_within said other p q h i same e =
      let b = (found_named other.name known (Some q.unit) e.unit).0 in let x = e.port in let y = i.port in let z = ap (λ s. s.port) same in (omega arith, omega arith)

  pub ends_within : (line : WireLine) (w : Wire) → Names known line w → ProperWire known w → (f : NamedPort) → f ≡ source_said line → (from : Port) → IsEnd known f from
      → (t : NamedPort) → t ≡ target_said line → (to : Port) → IsEnd known t to → InRange from to
  ends_within line w n p f ef from a t et to b =
      let x = end_within (source_said line) f w.from from p.from.within n.from ef a in
      let y = end_within (target_said line) t w.to to p.to.within n.to et b in
      record { from_unit = x.0; from_port = x.1; to_unit = y.0; to_port = y.1 }

-- a refusal that blames the range came for its cause
pub out_of_range : (before after : Wiring) (from to : Port) (fault : WireFault) (p : Port) → fault ≡ OutOfRange p → Added before from to (Err fault) after → InRange from to → ⊥
out_of_range before after from to fault p e a = (subst (λ f. Added before from to (Err f) after) e a).0

-- a line that was given out: the wire that it names, and the line in the file
pub record WireAhead (known : List (List ℕ)) (p : Position) (line : WireLine) : Type 0 where
  pub wire : Wire
  pub names : Names known line wire
  pub ahead : LineAhead (wire_line known) p wire

given_in : (known : List (List ℕ)) (p : Position) (line : WireLine) (s : Option (Result Wire FileFault)) → s ≡ answer_at (wire_line known) p → WireGiven known (Some (Ok line)) s → WireAhead known p line
given_in known p line None e g = absurd g
given_in known p line (Some (Ok w)) e g = record { wire = w; names = g; ahead = line_ahead (wire_line known) p w e }
given_in known p line (Some (Err f)) e g = absurd g

pub wire_ahead : {known : List (List ℕ)} {p : Position} {line : WireLine} {r : Option (Result WireLine FileFault)} → r ≡ Some (Ok line)
    → WireGiven known r (answer_at (wire_line known) p) → WireAhead known p line
wire_ahead {known} {p} {line} e g = given_in known p line (answer_at (wire_line known) p) refl (subst (λ x. WireGiven known x (answer_at (wire_line known) p)) e g)

-- the lines from a line on, once it is read
module _ (known : List (List ℕ)) (ws : List Wire) (w : Wire) (p : Position) (a : LineAhead (wire_line known) p w) where
  pub wires_on : supplier ws w.to ≡ None → lines_from (judge_wire known) p.line ws (ahead p) ≡ lines_from (judge_wire known) (p.line + 1) (ws ++ w ∷ []) (ahead (passed p (length a.text)))
  wires_on e = lines_on (judge_wire known) ws a (Ok w) (ap (once_only ws) a.judged ∙ ap (if_unwired w) e)

  pub wires_twice : (q : Port) → supplier ws w.to ≡ Some q → lines_from (judge_wire known) p.line ws (ahead p) ≡ Err (fault_at p.line WiredTwice)
  wires_twice q e = lines_on (judge_wire known) ws a (Err WiredTwice) (ap (once_only ws) a.judged ∙ ap (if_unwired w) e)

-- one wire more
module _ (w : Wire) (q : Port) where
  is_end : w.to.unit ≡ q.unit → w.to.port ≡ q.port → is_port w.to q ≡ true
  is_end a b = ap (λ t. t && eqb w.to.port q.port) (eq-eqb w.to.unit q.unit a) ∙ eq-eqb w.to.port q.port b

  supplier_here : (ws : List Wire) → supplier ws q ≡ None → is_port w.to q ≡ true → supplier (ws ++ w ∷ []) q ≡ Some w.from
  supplier_here [] n t = ap (λ b. cond b (Some w.from) None) t
  supplier_here (v ∷ ws) n t = on_test (is_port v.to q) (λ e. supplier_here ws e t) n
    where
      on_test : (b : Bool) → (supplier ws q ≡ None → supplier (ws ++ w ∷ []) q ≡ Some w.from) → cond b (Some v.from) (supplier ws q) ≡ None
          → cond b (Some v.from) (supplier (ws ++ w ∷ []) q) ≡ Some w.from
      on_test true rec e = not_some (sym e)
      on_test false rec e = rec e

  supplier_there : (ws : List Wire) → is_port w.to q ≡ false → supplier (ws ++ w ∷ []) q ≡ supplier ws q
  supplier_there [] f = ap (λ b. cond b (Some w.from) None) f
  supplier_there (v ∷ ws) f = ap (λ o. cond (is_port v.to q) (Some v.from) o) (supplier_there ws f)

not_end : (p q : Port) → (q.unit ≡ p.unit → q.port ≡ p.port → ⊥) → is_port p q ≡ false
not_end p q ne =
    ⊎_elim (λ (e : p.unit ≡ q.unit). ap (λ t. t && eqb p.port q.port) (eq-eqb p.unit q.unit e) ∙ ne_eqb p.port q.port (λ f. ne (sym e) (sym f)))
    (λ (d : p.unit ≡ q.unit → ⊥). ap (λ t. t && eqb p.port q.port) (ne_eqb p.unit q.unit d)) (cases_eq p.unit q.unit)

pub held_wire : (before after : Wiring) (ws : List Wire) (w : Wire) → HoldsWires before ws → source_of before w.to.unit w.to.port ≡ None → OneMore before w.from w.to after → HoldsWires after (ws ++ w ∷ [])
held_wire before after ws w h none m u i =
    let q : Port = record { unit = u; port = i } in
    ⊎_elim (λ (e : w.to.unit ≡ u).
    ⊎_elim (λ (f : w.to.port ≡ i).
    let n : supplier ws q ≡ None = sym (h u i) ∙ (ap (λ v. source_of before v i) (sym e) ∙ (ap (source_of before w.to.unit) (sym f) ∙ none)) in
    ap (λ v. source_of after v i) (sym e) ∙ (ap (source_of after w.to.unit) (sym f) ∙ (m.wired ∙ sym (supplier_here w q ws n (is_end w q e f)))))
    (λ (d : w.to.port ≡ i → ⊥). m.others u i (λ _ b. d (sym b)) ∙ (h u i ∙ sym (supplier_there w q ws (not_end w.to q (λ _ b. d (sym b))))))
    (cases_eq w.to.port i))
    (λ (d : w.to.unit ≡ u → ⊥). m.others u i (λ a _. d (sym a)) ∙ (h u i ∙ sym (supplier_there w q ws (not_end w.to q (λ a _. d (sym a))))))
    (cases_eq w.to.unit u)

-- a file rig has at most 16 names
pub few_names : (rig : FileRig) → length (names_of rig) ≤ 16
few_names rig =
    let l = length-map (labels_of rig) text_of in let m = length-map (vec_items rig.table.units) (λ x. x.label) in
    let v = rig.table.units.ok.0 in let f = rig.table.few in omega arith
