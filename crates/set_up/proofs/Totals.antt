-- How many ports the first units have.
use Rattle.std.proofs.Common.{◌≡◌, ℕ, zero, suc, ◌+◌, List, [], ◌∷◌, ◌++◌, length, take, Some, None, Option, refl, sym, ap, ◌∙◌, append_assoc, add-one, arith}
use Rattle.std.specs.List.{slice_get}
use Rattle.std.proofs.lemmas.List.{append-nil, length-append}
use Rattle.rig.specs.Units.{RigUnit}
use Rattle.set_up.specs.Outputs.{ports_from, ports_by, ports_in, input_count, output_count}

pub length_from : (u p n : ℕ) → length (ports_from u p n) ≡ n
length_from u p zero = refl
length_from u p (suc n) = ap suc (length_from u (p + 1) n)

-- how many ports a unit has, if it is there
abbrev pub count_in : {S : Type 0} → (RigUnit S → ℕ) → Option (RigUnit S) → ℕ
count_in count None = 0
count_in count (Some x) = count x

pub inputs_in : {S : Type 0} (o : Option (RigUnit S)) → (ports_in o).inputs ≡ count_in input_count o
inputs_in None = refl
inputs_in (Some x) = refl

pub outputs_in : {S : Type 0} (o : Option (RigUnit S)) → (ports_in o).outputs ≡ count_in output_count o
outputs_in None = refl
outputs_in (Some x) = refl

module _ {S : Type 0} (count : RigUnit S → ℕ) where
  more_from : (k : ℕ) (us : List (RigUnit S)) (u : ℕ)
      → ports_by count k (take (suc u) us) ≡ ports_by count k (take u us) ++ ports_from (k + u) 0 (count_in count (slice_get us u))
  more_from k [] zero = refl
  more_from k [] (suc u) = refl
  more_from k (x ∷ us) zero =
      let e : k + 0 ≡ k = omega arith in
      append-nil (ports_from k 0 (count x)) ∙ ap (λ z. ports_from z 0 (count x)) (sym e)
  more_from k (x ∷ us) (suc u) =
      let e : k + 1 + u ≡ k + suc u = omega arith in
      ap (λ z. ports_from k 0 (count x) ++ z) (more_from (k + 1) us u)
      ∙ sym (append_assoc (ports_from k 0 (count x)) (ports_by count (k + 1) (take u us)) (ports_from (k + 1 + u) 0 (count_in count (slice_get us u))))
      ∙ ap (λ z. (ports_from k 0 (count x) ++ ports_by count (k + 1) (take u us)) ++ ports_from z 0 (count_in count (slice_get us u))) e

  -- the ports of one unit more
  pub more : (us : List (RigUnit S)) (u : ℕ)
      → ports_by count 0 (take (u + 1) us) ≡ ports_by count 0 (take u us) ++ ports_from u 0 (count_in count (slice_get us u))
  more us u =
      let e : 0 + u ≡ u = omega arith in
      ap (λ z. ports_by count 0 (take z us)) (add-one u) ∙ more_from 0 us u
      ∙ ap (λ z. ports_by count 0 (take u us) ++ ports_from z 0 (count_in count (slice_get us u))) e

  pub more_count : (us : List (RigUnit S)) (u : ℕ)
      → length (ports_by count 0 (take (u + 1) us)) ≡ length (ports_by count 0 (take u us)) + count_in count (slice_get us u)
  more_count us u =
      ap length (more us u) ∙ length-append (ports_by count 0 (take u us)) (ports_from u 0 (count_in count (slice_get us u)))
      ∙ ap (λ z. length (ports_by count 0 (take u us)) + z) (length_from u 0 (count_in count (slice_get us u)))
