-- The parts of a text: that they are the parts and no other list is, and how the first of them ends.
use Rattle.std.proofs.Common.{◌≡◌, ℕ, zero, suc, ◌+◌, ◌≤◌, eqb, List, [], ◌∷◌, get_or, Option, Bor, ◌++◌, length, take, drop, Some, None, sym, refl, ap, ◌∙◌, subst, ⊎_elim, arith}
use Rattle.std.specs.List.{slice_get}
use Rattle.std.specs.Option.{option_copied, unwrap_or}
use Rattle.std.proofs.lemmas.Option.{unwrap_or-slice_get}
use Rattle.std.proofs.lemmas.Bool.{eq-eqb, ne_eqb, cases_eq}
use Rattle.std.proofs.lemmas.List.Splits.{slice_split-cons_yes, slice_split-cons_no, slice_split_none, slice_split_at, length-slice_split, join_with_byte-slice_split}
use Rattle.std.specs.List.{AllByRecursion, onto_first, count_by, All}
use Rattle.std.proofs.lemmas.List.{drop_at, drop-drop}
use Rattle.std.proofs.lemmas.List.Elements.{All-weaker, All-from_recursion}
use Rattle.std.specs.Prelude.{◌≢◌, false}
use Rattle.fields.specs.Parts.{parts, joined_by, Lacks, PartsLaw, FirstAt}

drop_past : (p : List ℕ) (b : ℕ) (t : List ℕ) → drop (suc (length p)) (p ++ (b ∷ t)) ≡ t
drop_past p b t = let n : suc (length p) ≡ length p + 1 = omega arith in ap (λ k. drop k (p ++ (b ∷ t))) n ∙ sym (drop-drop 1 (length p) (p ++ (b ∷ t))) ∙ ap (drop 1) (drop_at p (b ∷ t) (length p) refl)

-- a part that was looked up, or nothing in its place
pub part_or_empty : (r : Option (Bor (List ℕ))) (d : Bor (List ℕ)) (ps : List (List ℕ)) (i : ℕ) → option_copied r ≡ slice_get ps i → d.now ≡ [] → (unwrap_or r d).now ≡ get_or ps i []
part_or_empty None d ps i e n = n ∙ (ap (λ o. unwrap_or o []) e ∙ unwrap_or-slice_get ps i [])
part_or_empty (Some x) d ps i e n = ap (λ o. unwrap_or o []) e ∙ unwrap_or-slice_get ps i []

module _ (sep : ℕ) where
  -- a separator begins a part, and any other byte stands at the front of one
  parts_sep : (b : ℕ) (bs : List ℕ) → b ≡ sep → parts sep (b ∷ bs) ≡ [] ∷ parts sep bs
  parts_sep b bs e = slice_split-cons_yes (λ x. eqb x sep) b bs (eq-eqb b sep e)

  parts_other : (b : ℕ) (bs : List ℕ) → (b ≡ sep → ⊥) → parts sep (b ∷ bs) ≡ onto_first b (parts sep bs)
  parts_other b bs ne = slice_split-cons_no (λ x. eqb x sep) b bs (ne_eqb b sep ne)

  -- with the first separator at i the first part ends there; without one the text is its only part
  pub parts_first : (text : List ℕ) (i : ℕ) → FirstAt sep text (Some i) → parts sep text ≡ take i text ∷ parts sep (drop (suc i) text)
  parts_first [] i f = absurd (omega (arith, f.0))
  parts_first (b ∷ bs) zero f = parts_sep b bs f.1
  parts_first (b ∷ bs) (suc i) f =
      let ne : b ≡ sep → ⊥ = f.2 0 (omega arith) in
      let rec = parts_first bs i (omega (arith, f.0), f.1, λ k h. f.2 (suc k) (omega arith)) in
      parts_other b bs ne ∙ ap (onto_first b) rec

  pub parts_none : (text : List ℕ) → FirstAt sep text None → parts sep text ≡ text ∷ []
  parts_none [] f = refl
  parts_none (b ∷ bs) f = parts_other b bs (f 0 (omega arith)) ∙ ap (onto_first b) (parts_none bs (λ k h. f (suc k) (omega arith)))

  -- one part more than there are separators
  pub count_parts : (text : List ℕ) → length (parts sep text) ≡ count_by (λ b. eqb b sep) text + 1
  count_parts text = length-slice_split (λ b. eqb b sep) text

  -- there is a part, the parts joined are the text, and none of them holds the separator
  pub some_part : (text : List ℕ) → 1 ≤ length (parts sep text)
  some_part text = omega (arith, count_parts text)

  pub joined_parts : (text : List ℕ) → joined_by sep (parts sep text) ≡ text
  joined_parts text = join_with_byte-slice_split sep text

  apart_onto : (b : ℕ) (ps : List (List ℕ)) → (b ≡ sep → ⊥) → AllByRecursion (Lacks sep) ps → AllByRecursion (Lacks sep) (onto_first b ps)
  apart_onto b [] ne a = ((ne, tt), tt)
  apart_onto b (p ∷ ps) ne a = ((ne, a.0), a.1)

  apart_parts : (text : List ℕ) → AllByRecursion (Lacks sep) (parts sep text)
  apart_parts [] = (tt, tt)
  apart_parts (b ∷ bs) =
      ⊎_elim (λ (e : b ≡ sep). subst (AllByRecursion (Lacks sep)) (sym (parts_sep b bs e)) (tt, apart_parts bs))
      (λ (ne : b ≡ sep → ⊥). subst (AllByRecursion (Lacks sep)) (sym (parts_other b bs ne)) (apart_onto b (parts sep bs) ne (apart_parts bs)))
      (cases_eq b sep)

  lacking : (p : List ℕ) → Lacks sep p → All (λ b. eqb b sep ≡ false) p
  lacking p a = All-weaker (λ b. b ≢ sep) (λ b. eqb b sep ≡ false) (λ b ne. ne_eqb b sep ne) p (All-from_recursion (λ b. b ≢ sep) p a)

  -- parts that lack the separator are found again in what they make when joined
  parts_lone : (p : List ℕ) → Lacks sep p → parts sep p ≡ p ∷ []
  parts_lone p a = slice_split_none (λ b. eqb b sep) p (lacking p a)

  pub parts_append : (p t : List ℕ) → Lacks sep p → parts sep (p ++ (sep ∷ t)) ≡ p ∷ parts sep t
  parts_append p t a = slice_split_at (λ b. eqb b sep) p sep t (lacking p a) (eq-eqb sep sep refl)

  pub parts_joined : (ps : List (List ℕ)) → 1 ≤ length ps → AllByRecursion (Lacks sep) ps → parts sep (joined_by sep ps) ≡ ps
  parts_joined [] h a = absurd (omega arith)
  parts_joined (p ∷ []) h a = parts_lone p a.0
  parts_joined (p ∷ q ∷ ps) h a = parts_append p (joined_by sep (q ∷ ps)) a.0 ∙ ap (λ t. p ∷ t) (parts_joined (q ∷ ps) (omega arith) a.1)

  -- past the first part and its separator the later parts are left
  pub parts_later : (s p : List ℕ) (ps : List (List ℕ)) → 1 ≤ length ps → parts sep s ≡ p ∷ ps → parts sep (drop (suc (length p)) s) ≡ ps
  parts_later s p [] h e = absurd (omega arith)
  parts_later s p (q ∷ ps) h e =
      let a : s ≡ p ++ (sep ∷ joined_by sep (q ∷ ps)) = sym (joined_parts s) ∙ ap (joined_by sep) e in
      let d : drop (suc (length p)) s ≡ joined_by sep (q ∷ ps) = ap (drop (suc (length p))) a ∙ drop_past p sep (joined_by sep (q ∷ ps)) in
      let l : AllByRecursion (Lacks sep) (p ∷ q ∷ ps) = subst (AllByRecursion (Lacks sep)) e (apart_parts s) in
      ap (parts sep) d ∙ parts_joined (q ∷ ps) (omega arith) l.1

  pub parts_law : (text : List ℕ) → PartsLaw sep text
  parts_law text = record {
    found = record { some = some_part text; whole = joined_parts text; apart = apart_parts text };
    only = λ ps q. sym (parts_joined ps q.some q.apart) ∙ ap (parts sep) q.whole;
  }
