-- A unit in place described by the design of its body.
use Rattle.std.proofs.Common.{◌≡◌, ℕ, ◌<◌, true, List, map, length, get_or, Some, IsSomeAnd, sym, refl, ap, ◌∙◌, subst}
use Rattle.std.specs.List.{slice_get}
use Rattle.std.proofs.lemmas.Option.{slice_get-get_or, slice_get-map}
use Rattle.std.specs.Option.{option_map}
use Rattle.kinds.specs.declared.kind.Kind.{Kind}
use Rattle.kinds.specs.declared.body.Body.{Body}
use Rattle.kinds.specs.declared.design.Design.{Design}
use Rattle.kinds.specs.declared.body.Body.TheVariants.{Integrator, Gain, Constant}
use Rattle.kinds.specs.Contents.{rules_of, kind_of, held_of}
use Rattle.kinds.specs.Designs.{kind_as, held_as, design_of}
use Rattle.kinds.specs.Owning.{of_kind}
use Rattle.kinds.specs.Soundness.{same_kind_is}
use Rattle.memory.specs.declared.store.Memory.{Memory}
use Rattle.memory.specs.Kept.{unit_from}
use Rattle.unit_rig.specs.Own.{own_in}
use Rattle.file_rig.specs.Describing.{StandsAs}

same_kind : (b : Body) → kind_of b ≡ kind_as (design_of b)
same_kind (Integrator i) = refl
same_kind (Gain g) = refl
same_kind (Constant k) = refl

same_state : (b : Body) → (held_of b).state ≡ (held_as (design_of b)).state
same_state (Integrator i) = refl
same_state (Gain g) = refl
same_state (Constant k) = refl

stands : (k : Kind) (m : Memory Body) (b : Body) → own_in (of_kind k) m.held ≡ true → m.held ≡ Some b → StandsAs (design_of b) (unit_from (rules_of k) held_of m)
stands k m b own e =
    let kind = same_kind_is k (kind_of b) (subst (λ o. own_in (of_kind k) o ≡ true) e own) in
    record { rules = ap rules_of (sym kind ∙ same_kind b); state = ap (λ o. option_map (λ a. a.state) (option_map held_of o)) e ∙ ap (λ z. Some z) (same_state b) }

-- a unit of a list described by the design of its body
pub described : {X : Type 0} (kind : X → Kind) (memory : X → Memory Body) (xs : List X) (u : ℕ) (x : X) (b : Body) (d : Design)
    → u < length xs → x ≡ get_or xs u x → own_in (of_kind (kind x)) (memory x).held ≡ true → (memory x).held ≡ Some b → d ≡ design_of b
    → IsSomeAnd (slice_get (map (λ y. unit_from (rules_of (kind y)) held_of (memory y)) xs) u) (StandsAs d)
described kind memory xs u x b d inside there own held is =
    let model = λ (y : _). unit_from (rules_of (kind y)) held_of (memory y) in
    let found : slice_get (map model xs) u ≡ Some (model x) = slice_get-map model xs u ∙ ap (option_map model) (slice_get-get_or xs u x inside ∙ ap (λ z. Some z) (sym there)) in
    rw found (rw is (stands (kind x) (memory x) b own held))
