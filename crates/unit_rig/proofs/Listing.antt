-- A call of the one unit that a list lends, as a call of the rig of that list.
use Rattle.std.proofs.Common.{◌≡◌, ℕ, ◌<◌, List, [], ◌∷◌, map, length, get_or, set, slice_index_or, Some, None, Option, Result, option_to_list, sym, refl, ap, ◌∙◌, subst, arith}
use Rattle.std.specs.List.{slice_get}
use Rattle.std.proofs.lemmas.Option.{slice_get-get_or, slice_get-map}
use Rattle.std.specs.Option.{option_map}
use Rattle.std.proofs.lemmas.List.{length-map, map-set}
use Rattle.rig.specs.declared.cause.Cause.{Cause}
use Rattle.rig.specs.declared.cause.Target.{Target}
use Rattle.rig.specs.declared.cause.RigFault.{RigFault}
use Rattle.rig.specs.Units.{RigUnit}
use Rattle.rig.specs.Calls.{Call, Called, answer_of, blamed}
use Rattle.rig.proofs.Calling.{set_nth, answer_there, called_there}
use Rattle.unit_rig.specs.Lending.{LeftAs, Lent}

pub nth_mapped : {X Y : Type 0} (f : X → Y) (xs : List X) (u : ℕ) (x : X) → slice_get xs u ≡ Some x → slice_get (map f xs) u ≡ Some (f x)
nth_mapped f xs u x e = slice_get-map f xs u ∙ ap (option_map f) e

module _ {U L S T : Type 0} (model : U → RigUnit S) (label : U → L) (k : Call S T) (xs : List U) (u : ℕ) {t : Target} (target : k.target ≡ t) where
  blamed_for : (r : Result T Cause) {q : Result T RigFault} → q ≡ blamed u t r → q ≡ blamed u k.target r
  blamed_for r told = told ∙ ap (λ z. blamed u z r) (sym target)

  -- the unit x
  module _ {x : U} (inside : u < length xs) (read : x ≡ get_or xs u x) where
    there : slice_get xs u ≡ Some x
    there = slice_get-get_or xs u x inside ∙ ap (λ z. Some z) (sym read)

    pub told_there : (r : Result T Cause) {q : Result T RigFault} → q ≡ blamed u t r → r ≡ k.answer (model x) → q ≡ answer_of k (map model xs) u
    told_there r told e = blamed_for r told ∙ answer_there k (map model xs) u (nth_mapped model xs u x there) e

    -- which the call leaves as y
    pub lent_there : (r : Result T Cause) {q : Result T RigFault} → q ≡ blamed u t r → (y : U) → LeftAs model label k x r y → Lent model label k xs u q (set xs u y)
    lent_there r told y d =
        let w = called_there k (map model xs) u (nth_mapped model xs u x there) d.call in
        record {
          call = record { answer = blamed_for r told ∙ w.answer; units = map-set model xs u y ∙ w.units };
          labels = map-set label xs u y ∙ set_nth (map label xs) u (label y) (nth_mapped label xs u x there ∙ ap (λ z. Some z) (sym d.label));
        }

-- no unit comes or goes
pub lent_count : {U L S T : Type 0} {model : U → RigUnit S} {label : U → L} {k : Call S T} {xs ys : List U} {u : ℕ} {q : Result T RigFault} → Lent model label k xs u q ys → length ys ≡ length xs
lent_count {label = label} {xs = xs} {ys = ys} d = sym (length-map ys label) ∙ ap length d.labels ∙ length-map xs label

-- what an option ends as, where the slice of its one value, or of none, ended as ys
kept_one : {U : Type 0} (o : Option U) (ys : List U) → length ys ≡ length (option_to_list o) → option_to_list (option_map (slice_index_or ys 0) o) ≡ ys
kept_one None [] e = refl
kept_one None (y ∷ ys) e = grind (arith, e)
kept_one (Some x) [] e = grind (arith, e)
kept_one (Some x) (y ∷ []) e = refl
kept_one (Some x) (y ∷ z ∷ ys) e = grind (arith, e)

pub called_one : {U L S T : Type 0} {model : U → RigUnit S} {label : U → L} {k : Call S T} (o p : Option U) {ys : List U} {u : ℕ} {q : Result T RigFault}
    → Lent model label k (option_to_list o) u q ys → p ≡ option_map (slice_index_or ys 0) o → Called k (map model (option_to_list o)) u q (map model (option_to_list p))
called_one {model = model} {k = k} o p {ys = ys} {u = u} {q = q} d e =
    subst (λ zs. Called k (map model (option_to_list o)) u q (map model zs)) (sym (ap option_to_list e ∙ kept_one o ys (lent_count d))) d.call
