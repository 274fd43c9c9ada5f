-- Equal texts, and units by name.
use Rattle.std.proofs.Common.{◌≡◌, ℕ, zero, suc, ◌<◌, Bool, true, false, cond, List, [], ◌∷◌, length, Some, None, Option, ◌≢◌, slice_index_or, sym, refl, ap, ◌∙◌, subst, arith}
use Rattle.std.proofs.lemmas.Cmp.{nat_list_eq_equiv}
use Rattle.std.proofs.lemmas.Bool.{true≢false}
use Rattle.std.specs.Cmp.Lexicographic.{same_text as told}
use Rattle.std.specs.Option.{option_map}
use Rattle.file_rig.specs.Adding.{FoundAt}
use Rattle.lines.specs.Known.{same_text, unit_named}

pub same_refl : (s : List ℕ) → same_text s s ≡ true
same_refl s = nat_list_eq_equiv.refl s

pub same_true : (s t : List ℕ) → same_text s t ≡ true → s ≡ t
same_true s t h = told s t (sym h)

pub same_false : (s t : List ℕ) → (s ≡ t → ⊥) → same_text s t ≡ false
same_false s t ne = by_test (same_text s t) (same_true s t)
  where
    by_test : (b : Bool) → (b ≡ true → s ≡ t) → b ≡ false
    by_test true f = absurd (ne (f refl))
    by_test false f = refl

module _ (name : List ℕ) where
  here : (n : List ℕ) (ns : List (List ℕ)) → n ≡ name → unit_named (n ∷ ns) name ≡ Some 0
  here n ns e = ap (λ t. cond t (Some 0) (option_map suc (unit_named ns name))) (ap (λ x. same_text n x) (sym e) ∙ same_refl n)

  later : (n : List ℕ) (ns : List (List ℕ)) → (n ≡ name → ⊥) → unit_named (n ∷ ns) name ≡ option_map suc (unit_named ns name)
  later n ns ne = ap (λ t. cond t (Some 0) (option_map suc (unit_named ns name))) (same_false n name ne)

  -- the lowest unit with a name is the one that is found
  pub found_is : (ns : List (List ℕ)) (r : Option ℕ) → FoundAt ns name r → r ≡ unit_named ns name
  found_is [] None f = refl
  found_is [] (Some u) f = absurd (omega (arith, f.0))
  found_is (n ∷ ns) None f =
      sym (later n ns (f 0 (omega arith)) ∙ ap (option_map suc) (sym (found_is ns None (λ k h. f (suc k) (omega arith)))))
  found_is (n ∷ ns) (Some zero) f = sym (here n ns f.1)
  found_is (n ∷ ns) (Some (suc u)) f =
      sym (later n ns (f.2 0 (omega arith)) ∙ ap (option_map suc) (sym (found_is ns (Some u) (omega (arith, f.0), f.1, λ k h. f.2 (suc k) (omega arith)))))

  others_later : (n : List ℕ) (ns : List (List ℕ)) (m : ℕ) → n ≢ name → ((k : ℕ) → k < m → slice_index_or ns k [] ≢ name) → (k : ℕ) → k < suc m → slice_index_or (n ∷ ns) k [] ≢ name
  others_later n ns m ne f zero l = ne
  others_later n ns m ne f (suc k) l = f k (omega (arith, l))

  found_later : (n : List ℕ) (ns : List (List ℕ)) (r : Option ℕ) → n ≢ name → FoundAt ns name r → FoundAt (n ∷ ns) name (option_map suc r)
  found_later n ns None ne f = others_later n ns (length ns) ne f
  found_later n ns (Some u) ne f = (omega (arith, f.0), f.1, others_later n ns u ne f.2)

  found_in : (ns : List (List ℕ)) → FoundAt ns name (unit_named ns name)
  found_in [] = λ k l. absurd (omega (arith, l))
  found_in (n ∷ ns) = by_test (same_text n name) refl (found_in ns)
    where
      by_test : (b : Bool) → same_text n name ≡ b → FoundAt ns name (unit_named ns name) → FoundAt (n ∷ ns) name (cond b (Some 0) (option_map suc (unit_named ns name)))
      by_test true t f = (omega arith, same_true n name t, λ k l. absurd (omega (arith, l)))
      by_test false t f = found_later n ns (unit_named ns name) (λ e. true≢false (sym (same_refl n) ∙ (ap (same_text n) e ∙ t))) f

  -- the unit that is found is the lowest with the name
  pub found_named : (ns : List (List ℕ)) (r : Option ℕ) → unit_named ns name ≡ r → FoundAt ns name r
  found_named ns r e = subst (FoundAt ns name) e (found_in ns)
