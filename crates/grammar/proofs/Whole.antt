-- A file is read exactly when it is the one text of what it says.
use Rattle.std.proofs.Common.{◌≡◌, ℕ, ◌+◌, ◌≤◌, eqb, List, [], ◌∷◌, ◌++◌, map, length, Some, None, Ok, Err, codes, Option, Result, sym, refl, ap, ◌∙◌, subst, arith, rules}
use Rattle.std.specs.List.{AllByRecursion}
use Rattle.std.proofs.lemmas.List.{append-nil, append_assoc, nil_from_length, length-append}
use Rattle.std.proofs.lemmas.Bool.{eqb-true}
use Rattle.fields.specs.Parts.{parts, joined_by, Lacks}
use Rattle.fields.proofs.Parting.{parts_append, joined_parts}
use Rattle.wiring.specs.declared.port.Port.{Port}
use Rattle.lines.specs.declared.fault.LineFault.{LineFault}
use Rattle.lines.specs.declared.fault.LineFault.TheVariants.{Letter}
use Rattle.lines.specs.declared.fault.FileFault.{FileFault}
use Rattle.lines.specs.UnitLines.{UnitSaid}
use Rattle.lines.specs.WireLines.{Wire, wire_line}
use Rattle.lines.specs.Headers.{cap_of, is_wires, wires_head}
use Rattle.lines.proofs.Naming.{same_true}
use Rattle.grammar.specs.Texts.{unit_text, ProperUnit, wire_text, ProperWire, cap_text}
use Rattle.grammar.specs.Files.{fault_at, onward, lines_from, if_first, headed, UnitsSaid, names_said, judge_unit, with_cap, units_file, supplier, if_unwired, once_only, judge_wire, wires_file}
use Rattle.grammar.specs.Laws.{lines_text, InTurn, UnitsLaw, WiresLaw}
use Rattle.grammar.proofs.Accepted.{not_ok, test_ok, test_some}
use Rattle.grammar.proofs.Lines.{unit_line_law, unit_feedless, wire_line_law, wire_feedless, cap_law, cap_feedless}

-- ---- lines as parts of a file: what follows the last line feed is empty

abbrev ended : List (List ℕ) → List (List ℕ)
ended ts = ts ++ ([] ∷ [])

some_ended : (ts : List (List ℕ)) → 1 ≤ length (ended ts)
some_ended ts = simp length-append (omega arith)

parts_lines : (ts : List (List ℕ)) → AllByRecursion (Lacks 10) ts → parts 10 (lines_text ts) ≡ ended ts
parts_lines [] a = refl
parts_lines (t ∷ ts) a = parts_append 10 t (lines_text ts) a.0 ∙ ap (λ ps. t ∷ ps) (parts_lines ts a.1)

pub joined_more : (t : List ℕ) (ps : List (List ℕ)) → 1 ≤ length ps → joined_by 10 (t ∷ ps) ≡ t ++ (10 ∷ joined_by 10 ps)
joined_more t [] h = absurd (omega arith)
joined_more t (p ∷ ps) h = refl

joined_ended : (ts : List (List ℕ)) → joined_by 10 (ended ts) ≡ lines_text ts
joined_ended [] = refl
joined_ended (t ∷ ts) = joined_more t (ended ts) (some_ended ts) ∙ ap (λ s. t ++ (10 ∷ s)) (joined_ended ts)

lines_parts : (ts : List (List ℕ)) (bytes : List ℕ) → ended ts ≡ parts 10 bytes → lines_text ts ≡ bytes
lines_parts ts bytes e = sym (joined_ended ts) ∙ (ap (joined_by 10) e ∙ joined_parts 10 bytes)

-- ---- the first line, and what comes of the lines after it

module _ {X R : Type 0} (head : List ℕ → Option X) (body : X → List (List ℕ) → Result R FileFault) where
  after_ok : (o : Option X) (next : X → Result R FileFault) (r : R) → if_first o next ≡ Ok r → (x : X) × (o ≡ Some x) × (next x ≡ Ok r)
  after_ok None next r e = not_ok e
  after_ok (Some x) next r e = (x, refl, e)

  headed_ok : (ps : List (List ℕ)) (r : R) → headed head body ps ≡ Ok r
      → (first : List ℕ) × (rest : List (List ℕ)) × (x : X) × (first ∷ rest ≡ ps) × (1 ≤ length rest) × (head first ≡ Some x) × (body x rest ≡ Ok r)
  headed_ok [] r e = not_ok e
  headed_ok (first ∷ []) r e = not_ok e
  headed_ok (first ∷ next ∷ later) r e =
      let a = after_ok (head first) _ r e in (first, next ∷ later, a.0, refl, omega arith, a.1, a.2)

  headed_on : (first : List ℕ) (rest : List (List ℕ)) (x : X) → 1 ≤ length rest → head first ≡ Some x → headed head body (first ∷ rest) ≡ body x rest
  headed_on first [] x h e = absurd (omega arith)
  headed_on first (next ∷ later) x h e = ap (λ o. if_first o (λ y. body y (next ∷ later))) e

  first_on : (first : List ℕ) (ts : List (List ℕ)) (x : X) → AllByRecursion (Lacks 10) (first ∷ ts) → head first ≡ Some x
      → headed head body (parts 10 (lines_text (first ∷ ts))) ≡ body x (ended ts)
  first_on first ts x a e = ap (headed head body) (parts_lines (first ∷ ts) a) ∙ headed_on first (ended ts) x (some_ended ts) e

-- a line before others is judged by what was said before it
pub lines_more : {T : Type 0} (judge : List T → List ℕ → Result T LineFault) (l : ℕ) (before : List T) (text : List ℕ) (later : List (List ℕ)) → 1 ≤ length later
    → lines_from judge l before (text ∷ later) ≡ onward l (judge before text) (λ x. lines_from judge (l + 1) (before ++ x ∷ []) later)
lines_more judge l before text [] h = absurd (omega arith)
lines_more judge l before text (next ∷ later) h = refl

-- ---- the lines after it. A line is judged to be a thing exactly where it is that thing's text and the thing is proper after those before it

module _ {T : Type 0} (judge : List T → List ℕ → Result T LineFault) (text_of : T → List ℕ) (P : List T → T → Type 0) where
  onward_ok : {Y : Type 0} (l : ℕ) (o : Result T LineFault) (next : T → Result Y FileFault) (y : Y) → onward l o next ≡ Ok y → (x : T) × (o ≡ Ok x) × (next x ≡ Ok y)
  onward_ok l (Ok x) next y e = (x, refl, e)
  onward_ok l (Err f) next y e = not_ok e

  -- lines that are taken: new things that are proper in turn, and their texts
  lines_ok : ((before : List T) (text : List ℕ) (x : T) → judge before text ≡ Ok x → (text_of x ≡ text) × P before x)
      → (ps : List (List ℕ)) (l : ℕ) (before xs : List T) → 1 ≤ length ps → lines_from judge l before ps ≡ Ok xs
      → (new : List T) × (before ++ new ≡ xs) × (ended (map text_of new) ≡ ps) × InTurn P before new
  lines_ok only [] l before xs h e = absurd (omega arith)
  lines_ok only (rest ∷ []) l before xs h e =
      let g = test_ok (eqb (length rest) 0) (Ok before) (fault_at l Letter) xs e in
      let same : before ≡ xs = let k = g.1 in cc in
      let none = nil_from_length rest (eqb-true (length rest) 0 g.0) in
      ([], append-nil before ∙ same, ap (λ t. t ∷ []) (sym none), tt)
  lines_ok only (text ∷ next ∷ later) l before xs h e =
      let g = onward_ok l (judge before text) _ xs e in
      let o = only before text g.0 g.1 in
      let rec = lines_ok only (next ∷ later) (l + 1) (before ++ g.0 ∷ []) xs (omega arith) g.2 in
      (g.0 ∷ rec.0, sym (append_assoc before (g.0 ∷ []) rec.0) ∙ rec.1, (let a = o.0 in let b = rec.2 in cc), (o.1, rec.3))

  -- the same where no lines came before: the first line and these are the file
  file_ok : ((before : List T) (text : List ℕ) (x : T) → judge before text ≡ Ok x → (text_of x ≡ text) × P before x)
      → (bytes first : List ℕ) (rest : List (List ℕ)) (l : ℕ) (xs : List T) → first ∷ rest ≡ parts 10 bytes → 1 ≤ length rest → lines_from judge l [] rest ≡ Ok xs
      → (lines_text (first ∷ map text_of xs) ≡ bytes) × InTurn P [] xs
  file_ok only bytes first rest l xs whole some e =
      let g = lines_ok only rest l [] xs some e in
      subst (λ new. (lines_text (first ∷ map text_of new) ≡ bytes) × InTurn P [] new) g.1
      (lines_parts (first ∷ map text_of g.0) bytes (ap (λ ps. first ∷ ps) g.2 ∙ whole), g.3)

  -- the texts of things that are proper in turn are taken
  lines_on : ((before : List T) (x : T) → P before x → judge before (text_of x) ≡ Ok x)
      → (new : List T) (l : ℕ) (before : List T) → InTurn P before new → lines_from judge l before (ended (map text_of new)) ≡ Ok (before ++ new)
  lines_on every [] l before p = ap Ok (sym (append-nil before))
  lines_on every (x ∷ new) l before p =
      lines_more judge l before (text_of x) (ended (map text_of new)) (some_ended (map text_of new))
      ∙ (ap (λ o. onward l o (λ y. lines_from judge (l + 1) (before ++ y ∷ []) (ended (map text_of new)))) (every before x p.0)
      ∙ (lines_on every new (l + 1) (before ++ x ∷ []) p.1 ∙ ap Ok (append_assoc before (x ∷ []) new)))

  lines_feedless : ((before : List T) (x : T) → P before x → Lacks 10 (text_of x)) → (before new : List T) → InTurn P before new → AllByRecursion (Lacks 10) (map text_of new)
  lines_feedless lacks before [] p = tt
  lines_feedless lacks before (x ∷ new) p = (lacks before x p.0, lines_feedless lacks (before ++ x ∷ []) new p.1)

-- ---- a units file

abbrev ProperAfter : List UnitSaid → UnitSaid → Type 0
ProperAfter before u = ProperUnit (names_said before) u

cap_said : (m n : ℕ) (r : Result (List UnitSaid) FileFault) (us : List UnitSaid) → with_cap m r ≡ Ok (record { most = n; units = us }) → (m ≡ n) × (r ≡ Ok us)
cap_said m n (Ok vs) us e =
    let s : ◌≡◌ {A = UnitsSaid} (record { most = m; units = vs }) (record { most = n; units = us }) = cc in (ap (λ v. v.most) s, ap (λ v. Ok v.units) s)
cap_said m n (Err f) us e = not_ok e

abbrev pub units_after : ℕ → List (List ℕ) → Result UnitsSaid FileFault
units_after n lines = with_cap n (lines_from judge_unit 2 [] lines)

-- a units file is read exactly where it is the one text of its cap and units
pub units_law : (bytes : List ℕ) (n : ℕ) (us : List UnitSaid) → UnitsLaw bytes n us
units_law bytes n us = record {
  only = λ e.
      let h = headed_ok cap_of units_after (parts 10 bytes) (record { most = n; units = us }) e in
      let w = cap_said h.2 n (lines_from judge_unit 2 [] h.1) us h.6 in
      let c = (cap_law h.0 n).only (h.5 ∙ ap Some w.0) in
      let f = file_ok judge_unit unit_text ProperAfter (λ before text u. (unit_line_law (names_said before) text u).only) bytes (cap_text n) h.1 2 us
      (ap (λ t. t ∷ h.1) c.0 ∙ h.3) h.4 w.1 in
      (f.0, c.1, f.1);
  every = λ e cap units.
      let a = lines_feedless judge_unit unit_text ProperAfter (λ before u p. unit_feedless (names_said before) u p) [] us units in
      let l = lines_on judge_unit unit_text ProperAfter (λ before u p. (unit_line_law (names_said before) (unit_text u) u).every refl p) us 2 [] units in
      ap units_file (sym e) ∙ (first_on cap_of units_after (cap_text n) (map unit_text us) n (cap_feedless n cap, a) ((cap_law (cap_text n) n).every refl cap) ∙ ap (with_cap n) l);
}

-- ---- a wires file

module _ (known : List (List ℕ)) where
  abbrev ProperOnce : List Wire → Wire → Type 0
  ProperOnce before w = ProperWire known w × (supplier before w.to ≡ None)

  abbrev pub wires_after : Unit {0} → List (List ℕ) → Result (List Wire) FileFault
  wires_after _ lines = lines_from (judge_wire known) 2 [] lines

  unwired_ok : (v w : Wire) (o : Option Port) → if_unwired v o ≡ Ok w → (v ≡ w) × (o ≡ None)
  unwired_ok v w None e = (cc, refl)
  unwired_ok v w (Some p) e = not_ok e

  once_ok : (before : List Wire) (r : Result Wire LineFault) (w : Wire) → once_only before r ≡ Ok w → (r ≡ Ok w) × (supplier before w.to ≡ None)
  once_ok before (Ok v) w e =
      let g = unwired_ok v w (supplier before v.to) e in (ap Ok g.0, ap (λ x. supplier before x.to) (sym g.0) ∙ g.1)
  once_ok before (Err f) w e = not_ok e

  -- a line is judged to be a wire exactly where it is that wire's text and its input has no other wire
  judged_only : (before : List Wire) (text : List ℕ) (w : Wire) → judge_wire known before text ≡ Ok w → (wire_text known w ≡ text) × ProperOnce before w
  judged_only before text w e =
      let g = once_ok before (wire_line known text) w e in
      let o = (wire_line_law known text w).only g.0 in (o.0, (o.1, g.1))

  judged_every : (before : List Wire) (w : Wire) → ProperOnce before w → judge_wire known before (wire_text known w) ≡ Ok w
  judged_every before w p = ap (once_only before) ((wire_line_law known (wire_text known w) w).every refl p.0) ∙ ap (if_unwired w) p.1

head_feedless : Lacks 10 (codes "WIRES,1")
head_feedless = search rules

-- a wires file is read exactly where it is the one text of its wires
pub wires_law : (known : List (List ℕ)) (bytes : List ℕ) (ws : List Wire) → WiresLaw known bytes ws
wires_law known bytes ws = record {
  only = λ e.
      let h = headed_ok wires_head (wires_after known) (parts 10 bytes) ws e in
      let c = same_true h.0 (codes "WIRES,1") (test_some (is_wires h.0) _ h.2 h.5).0 in
      file_ok (judge_wire known) (wire_text known) (ProperOnce known) (judged_only known) bytes (codes "WIRES,1") h.1 2 ws (ap (λ t. t ∷ h.1) (sym c) ∙ h.3) h.4 h.6;
  every = λ e wires.
      let a = lines_feedless (judge_wire known) (wire_text known) (ProperOnce known) (λ before w p. wire_feedless known w p.0) [] ws wires in
      let l = lines_on (judge_wire known) (wire_text known) (ProperOnce known) (judged_every known) ws 2 [] wires in
      ap (wires_file known) (sym e) ∙ (first_on wires_head (wires_after known) (codes "WIRES,1") (map (wire_text known) ws) tt (head_feedless, a) refl ∙ l);
}
