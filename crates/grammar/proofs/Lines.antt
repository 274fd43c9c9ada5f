-- A line is read exactly when it is the one text of what it says.
use Rattle.std.proofs.Common.{◌≡◌, ℕ, ◌≤◌, Bool, true, false, cond, ◌&&◌, eqb, leb, ◌⊎◌, List, [], ◌∷◌, length, ℤ, pos, negsuc, nat_abs, Some, None, Ok, Err, codes, decimal, Option, Result, sym, refl, ap, ◌∙◌, subst, inl, inr, ⊎_elim, arith, rules}
use lib.Signed.{le_z}
use Rattle.std.specs.Option.{option_map}
use Rattle.std.specs.Fmt.{signed_decimal}
use Rattle.std.specs.List.{AllByRecursion}
use Rattle.std.proofs.lemmas.Int.{ints}
use Rattle.std.proofs.lemmas.Bool.{eqb-true, eq-eqb, le-leb, leb-true, and_parts, and_from, cond-true}
use Rattle.fields.specs.Parts.{joined_by, Lacks}
use Rattle.fields.proofs.Parting.{joined_parts}
use Rattle.kinds.specs.declared.kind.Kind.{Kind}
use Rattle.kinds.specs.declared.kind.Kind.TheVariants as kinds
use Rattle.kinds.specs.declared.design.Design.{Design}
use Rattle.kinds.specs.declared.design.Design.TheVariants.{Integrator, Gain, Constant}
use Rattle.kinds.specs.Designs.{design_fault, is_factor, kind_as}
use Rattle.names.specs.Naming.{is_name}
use Rattle.file_rig.specs.Adding.{FoundAt}
use Rattle.lines.specs.declared.fault.LineFault.{LineFault}
use Rattle.lines.specs.declared.fault.LineFault.TheVariants.{Letter, Disagree}
use Rattle.lines.specs.Known.{same_text, unit_named}
use Rattle.lines.specs.Fields.{fields, field}
use Rattle.lines.specs.UnitLines.{UnitSaid, unit_line, unit_of_kind, with_name, design_at, fields_of, kind_of_letter}
use Rattle.lines.specs.WireLines.{Wire, wire_line, wire_at, wire_by_letter, wire_between}
use Rattle.lines.specs.Headers.{cap_of}
use Rattle.lines.proofs.Naming.{same_refl, same_true, found_is, found_named}
use Rattle.grammar.specs.Texts.{unit_fields, unit_text, Signals, ProperUnit, UnitLineLaw, name_of, wire_fields, wire_text, ProperEnd, ProperWire, WireLineLaw, cap_fields, cap_text, ProperCap, CapLaw}
use Rattle.grammar.proofs.Accepted.{not_ok, not_some, test_ok, test_some, mapped_some, Writes, within_some, some_within, writes_in, natural_writes, writes_natural, count_ok, room_ok, new_ok, known_ok, number_ok, within_ok, count_on, room_on, new_on, known_on, number_on, within_on}
use Rattle.grammar.proofs.Plain.{Plain, name_plain, number_plain, decimal_plain, joined_feedless, Reads, reads_all, reads_joined}

-- fields that are read in a line, as many as it has, are its text when joined
text_joined : (text : List ℕ) (ps : List (List ℕ)) → length (fields text) ≡ length ps → Reads (fields text) 0 ps → joined_by 44 ps ≡ text
text_joined text ps l r = sym (ap (joined_by 44) (reads_all (fields text) ps l r)) ∙ joined_parts 44 text

-- ---- a unit's line

abbrev letter_of : Kind → List ℕ
letter_of kinds.Integrator = codes "I"
letter_of kinds.Gain = codes "G"
letter_of kinds.Constant = codes "K"

-- a choice that is made, or what is left where it is not
choice : {A : Type 0} (b : Bool) (x y : A) (o : Option A) → cond b (Some x) o ≡ Some y → ((b ≡ true) × (x ≡ y)) ⊎ (o ≡ Some y)
choice true x y o e = inl (refl, cc)
choice false x y o e = inr e

-- the letter of each kind, and no other, is read as this kind
letter_at : (b n : ℕ) (k l : Kind) → letter_of k ≡ n ∷ [] → eqb b n ≡ true → k ≡ l → letter_of l ≡ b ∷ []
letter_at b n k l e t s = let h = eqb-true b n t in sym (ap letter_of s) ∙ (e ∙ ap (λ v. v ∷ []) (sym h))

letter_ok : (text : List ℕ) (k : Kind) → kind_of_letter text ≡ Some k → letter_of k ≡ text
letter_ok [] k e = not_some e
letter_ok (b ∷ []) k e =
    ⊎_elim (λ h. letter_at b 73 kinds.Integrator k refl h.0 h.1)
    (λ e. ⊎_elim (λ h. letter_at b 71 kinds.Gain k refl h.0 h.1)
    (λ e. ⊎_elim (λ h. letter_at b 75 kinds.Constant k refl h.0 h.1) (λ e. not_some e) (choice (eqb b 75) kinds.Constant k None e))
    (choice (eqb b 71) kinds.Gain k _ e))
    (choice (eqb b 73) kinds.Integrator k _ e)
letter_ok (b ∷ d ∷ ds) k e = not_some e

letter_on : (k : Kind) → kind_of_letter (letter_of k) ≡ Some k
letter_on kinds.Integrator = refl
letter_on kinds.Gain = refl
letter_on kinds.Constant = refl

-- the fields after the name
abbrev after : Design → List (List ℕ)
after (Integrator x lo hi m) = signed_decimal x ∷ signed_decimal lo ∷ signed_decimal hi ∷ decimal m ∷ []
after (Gain a b c) = signed_decimal a ∷ signed_decimal b ∷ signed_decimal c ∷ []
after (Constant v) = signed_decimal v ∷ []

-- all the fields
abbrev told : List ℕ → Design → List (List ℕ)
told name d = letter_of (kind_as d) ∷ name ∷ after d

all_fields : (name : List ℕ) (d : Design) → unit_fields name d ≡ told name d
all_fields name (Integrator x lo hi m) = refl
all_fields name (Gain a b c) = refl
all_fields name (Constant v) = refl

count_fields : (name : List ℕ) (d : Design) → length (told name d) ≡ fields_of (kind_as d)
count_fields name (Integrator x lo hi m) = refl
count_fields name (Gain a b c) = refl
count_fields name (Constant v) = refl

-- a design that a line tells after its name
record Tells (line : List ℕ) (k : Kind) (d : Design) : Type 0 where
  kind : kind_as d ≡ k
  reads : Reads (fields line) 2 (after d)
  ranges : design_fault d ≡ None
  signals : Signals d

-- a design that is read is one that the line tells
design_ok : (line : List ℕ) (k : Kind) (d : Design) → design_at k line ≡ Ok d → Tells line k d
design_ok line kinds.Integrator d e =
    let x = number_ok line 3 _ d e in
    let lo = number_ok line 4 _ d x.3 in
    let hi = number_ok line 5 _ d lo.3 in
    let m = within_ok line 6 _ (pos 1) (pos 1000000) d hi.3 in
    let n = natural_writes 1 1000000 m.0 (field 6 line) m.1 in
    let t = test_ok (le_z lo.0 x.0 && le_z x.0 hi.0) _ Disagree d m.2 in
    let same : Integrator x.0 lo.0 hi.0 n.0 ≡ d = let a = t.1 in let b = ap nat_abs n.1 in cc in
    subst (Tells line kinds.Integrator) same (record {
      kind = refl;
      reads = (x.2, (lo.2, (hi.2, (n.2, tt))));
      ranges = cond-true _ _ _ (and_from _ _ (le-leb 1 n.0 n.3) (le-leb n.0 1000000 n.4)) ∙ cond-true _ _ _ t.0;
      signals = (x.1, lo.1, hi.1);
    })
design_ok line kinds.Gain d e =
    let a = within_ok line 3 _ (negsuc 999) (pos 1000) d e in
    let b = within_ok line 4 _ (negsuc 999) (pos 1000) d a.2 in
    let c = number_ok line 5 _ d b.2 in
    let same : Gain a.0 b.0 c.0 ≡ d = let h = c.3 in cc in
    subst (Tells line kinds.Gain) same (record {
      kind = refl;
      reads = (a.1.is, (b.1.is, (c.2, tt)));
      ranges = cond-true _ _ _ a.1.range ∙ cond-true _ _ _ b.1.range;
      signals = c.1;
    })
design_ok line kinds.Constant d e =
    let v = number_ok line 3 _ d e in
    let same : Constant v.0 ≡ d = let h = v.3 in cc in
    subst (Tells line kinds.Constant) same (record { kind = refl; reads = (v.2, tt); ranges = refl; signals = v.1 })

-- no fault is found where no test finds one
none_left : {A : Type 0} (b : Bool) (o : Option A) (f : A) → cond b o (Some f) ≡ None → (b ≡ true) × (o ≡ None)
none_left true o f e = (refl, e)
none_left false o f e = not_some (sym e)

-- a factor of a gain is a number of the signal range
factor : (a : ℤ) (text : List ℕ) → signed_decimal a ≡ text → is_factor a ≡ true → Writes (negsuc 999) (pos 1000) a text
factor a text e r = writes_in (negsuc 999) (pos 1000) a text (omega (arith, ints)) (omega (arith, ints)) e r

-- a design that the line tells is read
design_on : (line : List ℕ) (d : Design) → Reads (fields line) 2 (after d) → design_fault d ≡ None → Signals d → design_at (kind_as d) line ≡ Ok d
design_on line (Integrator x lo hi m) r e s =
    let g = none_left (leb 1 m && leb m 1000000) _ _ e in
    let h = none_left (le_z lo x && le_z x hi) _ _ g.1 in
    let t = and_parts (leb 1 m) (leb m 1000000) g.0 in
    let w = writes_natural 1 1000000 m (field 6 line) (omega arith) r.1.1.1.0 (leb-true 1 m t.0) (leb-true m 1000000 t.1) in
    number_on line 3 _ x s.0 r.0 ∙ (number_on line 4 _ lo s.1 r.1.0 ∙ (number_on line 5 _ hi s.2 r.1.1.0
    ∙ (within_on line 6 _ (pos 1) (pos 1000000) (pos m) w ∙ cond-true _ _ _ h.0)))
design_on line (Gain a b c) r e s =
    let g = none_left (is_factor a) _ _ e in
    let h = none_left (is_factor b) _ _ g.1 in
    within_on line 3 _ (negsuc 999) (pos 1000) a (factor a (field 3 line) r.0 g.0)
    ∙ (within_on line 4 _ (negsuc 999) (pos 1000) b (factor b (field 4 line) r.1.0 h.0) ∙ number_on line 5 _ c s r.1.1.0)
design_on line (Constant v) r e s = number_on line 3 _ v s r.0

named_ok : (name : List ℕ) (r : Result Design LineFault) (u : UnitSaid) → with_name name r ≡ Ok u → (name ≡ u.name) × (r ≡ Ok u.design)
named_ok name (Ok d) u e = let s : record { name = name; design = d } ≡ u = cc in (ap (λ v. v.name) s, ap (λ v. Ok v.design) s)
named_ok name (Err f) u e = not_ok e

abbrev said : UnitSaid → List (List ℕ)
said u = told u.name u.design

unit_text_lem : (u : UnitSaid) → unit_text u ≡ joined_by 44 (said u)
unit_text_lem u = ap (joined_by 44) (all_fields u.name u.design)

-- none of these fields holds a comma or a line feed
letter_plain : (k : Kind) → Plain (letter_of k)
letter_plain kinds.Integrator = search rules
letter_plain kinds.Gain = search rules
letter_plain kinds.Constant = search rules

after_plain : (d : Design) → design_fault d ≡ None → Signals d → AllByRecursion Plain (after d)
after_plain (Integrator x lo hi m) e s =
    let h = leb-true m 1000000 (and_parts (leb 1 m) (leb m 1000000) (none_left (leb 1 m && leb m 1000000) _ _ e).0).1 in
    (number_plain x s.0, (number_plain lo s.1, (number_plain hi s.2, (decimal_plain m (omega arith), tt))))
after_plain (Gain a b c) e s =
    let g = none_left (is_factor a) _ _ e in
    let h = none_left (is_factor b) _ _ g.1 in
    (number_plain a (factor a (signed_decimal a) refl g.0).signal, (number_plain b (factor b (signed_decimal b) refl h.0).signal, (number_plain c s, tt)))
after_plain (Constant v) e s = (number_plain v s, tt)

module _ (known : List (List ℕ)) (u : UnitSaid) (proper : ProperUnit known u) where
  unit_plain : AllByRecursion Plain (said u)
  unit_plain = (letter_plain (kind_as u.design), (name_plain u.name proper.name, after_plain u.design proper.ranges proper.signals))

  pub unit_feedless : Lacks 10 (unit_text u)
  unit_feedless = subst (Lacks 10) (sym (unit_text_lem u)) (joined_feedless (said u) unit_plain)

module _ (known : List (List ℕ)) (text : List ℕ) (u : UnitSaid) where
  unit_only : unit_line known text ≡ Ok u → (unit_text u ≡ text) × ProperUnit known u
  unit_only = by (kind_of_letter (field 1 text)) refl
    where
      by : (o : Option Kind) → kind_of_letter (field 1 text) ≡ o → unit_of_kind known text o ≡ Ok u → (unit_text u ≡ text) × ProperUnit known u
      by None l e = not_ok e
      by (Some k) l e =
          let c = count_ok text u _ (fields_of k) e in
          let r = room_ok known _ u c.1 in
          let n = new_ok text u _ known 2 r.1 in
          let w = named_ok (field 2 text) (design_at k text) u n.2 in
          let d = design_ok text k u.design w.1 in
          let same = c.0 ∙ sym (count_fields u.name u.design ∙ ap fields_of d.kind) in (
            unit_text_lem u ∙ text_joined text (said u) same (ap letter_of d.kind ∙ letter_ok (field 1 text) k l, (sym w.0, d.reads)),
            record {
              room = r.0;
              name = ap is_name (sym w.0) ∙ n.0;
              new = found_named u.name known None (ap (unit_named known) (sym w.0) ∙ n.1);
              ranges = d.ranges;
              signals = d.signals;
            },
          )

  unit_every : unit_text u ≡ text → ProperUnit known u → unit_line known text ≡ Ok u
  unit_every e proper =
      let d = u.design in
      let k = kind_as d in
      let r = reads_joined text (said u) (sym (unit_text_lem u) ∙ e) (omega arith) (unit_plain known u proper) in
      let second = r.1.1.0 in
      ap (λ t. unit_of_kind known text (kind_of_letter t)) (sym r.1.0) ∙ (ap (unit_of_kind known text) (letter_on k)
      ∙ (count_on text _ (fields_of k) (r.0 ∙ count_fields u.name d) ∙ (room_on text _ known proper.room
      ∙ (new_on text _ known 2 (ap is_name (sym second) ∙ proper.name) (ap (unit_named known) (sym second) ∙ sym (found_is u.name known None proper.new))
      ∙ (ap (with_name (field 2 text)) (design_on text d r.1.1.1 proper.ranges proper.signals)
      ∙ ap (λ n. Ok (record { name = n; design = d })) (sym second))))))

-- a line is read as a unit exactly where it is that unit's text, and the unit is then a proper one
pub unit_line_law : (known : List (List ℕ)) (text : List ℕ) (u : UnitSaid) → UnitLineLaw known text u
unit_line_law known text u = record { only = unit_only known text u; every = unit_every known text u }

pub unit_proper : (known : List (List ℕ)) (text : List ℕ) (u : UnitSaid) → unit_line known text ≡ Ok u → ProperUnit known u
unit_proper known text u e = (unit_only known text u e).1

-- ---- a wire's line

-- a unit that is found by a name has this name
pub named_is : (ns : List (List ℕ)) (name : List ℕ) (u : ℕ) → unit_named ns name ≡ Some u → name_of ns u ≡ name
named_is ns name u e = (found_named name ns (Some u) e).1

end_proper : (known : List (List ℕ)) (name : List ℕ) (u port : ℕ) → is_name name ≡ true → unit_named known name ≡ Some u → port ≤ 7 → ProperEnd known u port
end_proper known name u port n e h =
    let s = named_is known name u e in record { name = ap is_name s ∙ n; unit = subst (λ t. FoundAt known t (Some u)) (sym s) (found_named name known (Some u) e); within = h }

module _ (known : List (List ℕ)) (w : Wire) (proper : ProperWire known w) where
  wire_plain : AllByRecursion Plain (wire_fields known w)
  wire_plain =
      let f = proper.from in
      let t = proper.to in
      (search rules, (name_plain _ f.name, (decimal_plain w.from.port (omega arith), (name_plain _ t.name, (decimal_plain w.to.port (omega arith), tt)))))

  pub wire_feedless : Lacks 10 (wire_text known w)
  wire_feedless = joined_feedless (wire_fields known w) wire_plain

module _ (known : List (List ℕ)) (text : List ℕ) (w : Wire) where
  wire_letter_ok : (t : List ℕ) → wire_by_letter known text t ≡ Ok w → (codes "W" ≡ t) × (wire_at known text ≡ Ok w)
  wire_letter_ok [] e = not_ok e
  wire_letter_ok (b ∷ []) e = let g = test_ok (eqb b 87) (wire_at known text) Letter w e in (ap (λ v. v ∷ []) (sym (eqb-true b 87 g.0)), g.1)
  wire_letter_ok (b ∷ d ∷ ds) e = not_ok e

  wire_only : wire_line known text ≡ Ok w → (wire_text known w ≡ text) × ProperWire known w
  wire_only e =
      let l = wire_letter_ok (field 1 text) e in
      let c = count_ok text w _ 5 l.1 in
      let f = known_ok text 2 known _ w c.1 in
      let o = within_ok text 3 _ (pos 0) (pos 7) w f.3 in
      let p = natural_writes 0 7 o.0 (field 3 text) o.1 in
      let t = known_ok text 4 known _ w o.2 in
      let i = within_ok text 5 _ (pos 0) (pos 7) w t.3 in
      let q = natural_writes 0 7 i.0 (field 5 text) i.1 in
      let same : wire_between f.0 (pos p.0) t.0 (pos q.0) ≡ w = let h = i.2 in let a = p.1 in let b = q.1 in cc in
      subst (λ v. (wire_text known v ≡ text) × ProperWire known v) same (
        text_joined text (wire_fields known (wire_between f.0 (pos p.0) t.0 (pos q.0))) c.0 (l.0, (named_is known _ f.0 f.2, (p.2, (named_is known _ t.0 t.2, (q.2, tt))))),
        record { from = end_proper known _ f.0 p.0 f.1 f.2 p.4; to = end_proper known _ t.0 q.0 t.1 t.2 q.4 },
      )

  wire_every : wire_text known w ≡ text → ProperWire known w → wire_line known text ≡ Ok w
  wire_every e proper =
      let f = proper.from in
      let t = proper.to in
      let r = reads_joined text (wire_fields known w) e (omega arith) (wire_plain known w proper) in
      let one = r.1.1.0 in
      let two = r.1.1.1.1.0 in
      let o = writes_natural 0 7 w.from.port (field 3 text) (omega arith) r.1.1.1.0 (omega arith) f.within in
      let i = writes_natural 0 7 w.to.port (field 5 text) (omega arith) r.1.1.1.1.1.0 (omega arith) t.within in
      ap (wire_by_letter known text) (sym r.1.0) ∙ (count_on text _ 5 r.0
      ∙ (known_on text 2 known _ w.from.unit (ap is_name (sym one) ∙ f.name) (ap (unit_named known) (sym one) ∙ sym (found_is _ known (Some w.from.unit) f.unit))
      ∙ (within_on text 3 _ (pos 0) (pos 7) (pos w.from.port) o
      ∙ (known_on text 4 known _ w.to.unit (ap is_name (sym two) ∙ t.name) (ap (unit_named known) (sym two) ∙ sym (found_is _ known (Some w.to.unit) t.unit))
      ∙ within_on text 5 _ (pos 0) (pos 7) (pos w.to.port) i))))

-- a line is read as a wire exactly where it is that wire's text, and the wire is then a proper one
pub wire_line_law : (known : List (List ℕ)) (text : List ℕ) (w : Wire) → WireLineLaw known text w
wire_line_law known text w = record { only = wire_only known text w; every = wire_every known text w }

pub wire_proper : (known : List (List ℕ)) (text : List ℕ) (w : Wire) → wire_line known text ≡ Ok w → ProperWire known w
wire_proper known text w e = (wire_only known text w e).1

-- ---- the first line of a units file

cap_plain : (n : ℕ) → ProperCap n → AllByRecursion Plain (cap_fields n)
cap_plain n proper =
    (search rules, (search rules, (decimal_plain n (omega arith), tt)))

pub cap_feedless : (n : ℕ) → ProperCap n → Lacks 10 (cap_text n)
cap_feedless n proper = joined_feedless (cap_fields n) (cap_plain n proper)

module _ (text : List ℕ) (n : ℕ) where
  cap_only : cap_of text ≡ Some n → (cap_text n ≡ text) × ProperCap n
  cap_only e =
      let t = test_some (eqb (length (fields text)) 3 && (same_text (field 1 text) (codes "UNITS") && same_text (field 2 text) (codes "1"))) _ n e in
      let a = and_parts (eqb (length (fields text)) 3) _ t.0 in
      let b = and_parts (same_text (field 1 text) (codes "UNITS")) _ a.1 in
      let m = mapped_some nat_abs _ n t.1 in
      let w = natural_writes 1 1000000 m.0 (field 3 text) (within_some (pos 1) (pos 1000000) (field 3 text) m.0 m.1) in
      let same : n ≡ w.0 = sym m.2 ∙ ap nat_abs w.1 in (
        text_joined text (cap_fields n) (eqb-true _ 3 a.0) (sym (same_true _ _ b.0), (sym (same_true _ _ b.1), (ap decimal same ∙ w.2, tt))),
        record { some = omega (arith, w.3); most = omega (arith, w.4) },
      )

  cap_every : cap_text n ≡ text → ProperCap n → cap_of text ≡ Some n
  cap_every e proper =
      let r = reads_joined text (cap_fields n) e (omega arith) (cap_plain n proper) in
      let one = ap (λ t. same_text t (codes "UNITS")) (sym r.1.0) ∙ same_refl (codes "UNITS") in
      let two = ap (λ t. same_text t (codes "1")) (sym r.1.1.0) ∙ same_refl (codes "1") in
      let w = writes_natural 1 1000000 n (field 3 text) (omega arith) r.1.1.1.0 proper.some proper.most in
      cond-true _ _ _ (and_from _ _ (eq-eqb _ 3 r.0) (and_from _ _ one two)) ∙ ap (option_map nat_abs) (some_within (pos 1) (pos 1000000) (field 3 text) (pos n) w)

-- a first line tells a cap exactly where it is that cap's text
pub cap_law : (text : List ℕ) (n : ℕ) → CapLaw text n
cap_law text n = record { only = cap_only text n; every = cap_every text n }
