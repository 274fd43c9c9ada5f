-- What a status tells of its unit.
use Rattle.std.proofs.Common.{◌≡◌, ℕ, zero, suc, ◌<◌, true, false, not, List, is_some, Some, None, Ok, Err, Option, Decides, refl, sym, subst, ◌∙◌, ⊎_elim, arith, Result}
use Rattle.std.specs.List.{slice_get}
use Rattle.std.proofs.lemmas.Bool.{or_parts, or_from, cases_Bool}
use Rattle.rig.specs.declared.cause.RigFault.{RigFault}
use Rattle.rig.specs.declared.cause.Target.TheVariants.{Whole}
use Rattle.rig.specs.declared.shape.Status.{Status}
use Rattle.rig.specs.Units.{RigUnit, place_of}
use Rattle.rig.specs.Calls.{answer_of, answer_in, blamed, status, status_of, filled_at}
use Rattle.set_up.specs.Passing.{IsFresh}
use Rattle.set_up.specs.Causes.{is_used, IsInUse}

none_from : {X : Type 0} (o : Option X) → is_some o ≡ false → o ≡ None
none_from None e = refl
none_from (Some x) e = cc

some_from : {X : Type 0} (o : Option X) → not (is_some o) ≡ false → is_some o ≡ true
some_from None e = cc
some_from (Some x) e = refl

not_some : {X : Type 0} (o : Option X) → is_some o ≡ true → not (is_some o) ≡ false
not_some None e = cc
not_some (Some x) e = refl

four : (P : ℕ → Type 0) → P 0 → P 1 → P 2 → P 3 → (p : ℕ) → p < 4 → P p
four P a b c d zero lt = a
four P a b c d (suc zero) lt = b
four P a b c d (suc (suc zero)) lt = c
four P a b c d (suc (suc (suc zero))) lt = d
four P a b c d (suc (suc (suc (suc p)))) lt = absurd (omega arith)

module _ {S : Type 0} (x : RigUnit S) where
  abbrev told : Status
  told = status_of x.held x.places

  fresh : is_used told ≡ false → IsFresh x
  fresh e =
      let a = or_parts (not (is_some x.held)) _ e in
      let b = or_parts (filled_at x.places 0) _ a.1 in
      let c = or_parts (filled_at x.places 1) _ b.1 in
      let d = or_parts (filled_at x.places 2) _ c.1 in
      record {
        in_place = some_from x.held a.0;
        empty = four (λ p. place_of p x ≡ None) (none_from _ b.0) (none_from _ c.0) (none_from _ d.0) (none_from _ d.1);
      }

  empty_at : (p : ℕ) → p < 4 → IsFresh x → filled_at x.places p ≡ false
  empty_at p lt f = let e = f.empty p lt in cc

  unused : IsFresh x → is_used told ≡ false
  unused f =
      let c = or_from _ _ (empty_at 2 (omega arith) f) (empty_at 3 (omega arith) f) in
      let b = or_from _ _ (empty_at 1 (omega arith) f) c in
      let a = or_from _ _ (empty_at 0 (omega arith) f) b in
      or_from _ _ (not_some x.held f.in_place) a

pub fresh_unless : {S : Type 0} (x : RigUnit S) → ((IsFresh x → ⊥) → ⊥) → IsFresh x
fresh_unless x n =
    ⊎_elim (λ (t : is_used (told x) ≡ true). absurd (n (λ f. let z = unused x f in let q : true ≡ false = sym t ∙ z in cc)))
    (λ (f : is_used (told x) ≡ false). fresh x f) (cases_Bool (is_used (told x)))

module _ {S : Type 0} (us : List (RigUnit S)) (u : ℕ) where
  same_unit : (x : RigUnit S) → slice_get us u ≡ Some x → (i : IsInUse us u) → x ≡ i.unit
  same_unit x e i = let s : ◌≡◌ {A = Option (RigUnit S)} (Some x) (Some i.unit) = sym e ∙ i.there in cc

  used_at : (x : RigUnit S) → slice_get us u ≡ Some x → Decides (is_used (told x)) (IsInUse us u)
  used_at x e = (
    (λ t. record { unit = x; there = e; used = λ f. let z = unused x f in let q : true ≡ false = sym t ∙ z in cc }),
    (λ i. ⊎_elim (λ (t : is_used (told x) ≡ true). t)
        (λ (f : is_used (told x) ≡ false). absurd (i.used (subst IsFresh (same_unit x e i) (fresh x f))))
        (cases_Bool (is_used (told x)))),
  )

  told_in : (o : Option (RigUnit S)) (s : Status) → slice_get us u ≡ o → ◌≡◌ {A = Result Status RigFault} (Ok s) (blamed u Whole (answer_in status o))
      → Decides (is_used s) (IsInUse us u)
  told_in None s e t = absurd (let z : ◌≡◌ {A = ℕ} 0 1 = cc in omega arith)
  told_in (Some x) s e t =
      let q : s ≡ told x = cc in
      subst (λ z. Decides (is_used z) (IsInUse us u)) (sym q) (used_at x e)

  -- a status tells whether the unit is in use, and a unit without status is not
  pub told_used : (s : Status) → ◌≡◌ {A = Result Status RigFault} (Ok s) (answer_of status us u) → Decides (is_used s) (IsInUse us u)
  told_used s t = told_in (slice_get us u) s refl t

  none_in : (o : Option (RigUnit S)) (f : RigFault) → slice_get us u ≡ o → ◌≡◌ {A = Result Status RigFault} (Err f) (blamed u Whole (answer_in status o)) → IsInUse us u → ⊥
  none_in None f e t i = let z : ◌≡◌ {A = Option (RigUnit S)} None (Some i.unit) = sym e ∙ i.there in cc
  none_in (Some x) f e t i = cc

  pub told_none : (f : RigFault) → ◌≡◌ {A = Result Status RigFault} (Err f) (answer_of status us u) → IsInUse us u → ⊥
  told_none f t = none_in (slice_get us u) f refl t
