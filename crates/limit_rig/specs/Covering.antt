-- A rig put under a limit and taken back, and the laws of a rig under it.
use Rattle.std.specs.Prelude.{◌≡◌, ℕ, zero, suc, Bool, true, false, List, [], ◌∷◌, map, replicate, Some, None, Option, slice_index_or, refl}
use Rattle.std.proofs.Common.{sym, ap, ◌∙◌, subst, arith}
use Rattle.std.specs.List.{slice_get, AllByRecursion}
use Rattle.std.specs.Option.{option_map}
use Rattle.rig.specs.Units.{Rules, Held, RigUnit}
use Rattle.rig.specs.Laws.{SuitsIn, SoundUnit, Sound}
use Rattle.limit_rig.specs.Limits.{rules_under, unit_under, units_under, UnitBeneath, Beneath}
use Rattle.limit_rig.specs.Limiting.{length_under, nth_under}

-- no flag set, of any number of flags
pub none_flagged : {S : Type 0} (m n : ℕ) (us : List (RigUnit S)) → units_under m (replicate n false) us ≡ map (unit_under m false) us
none_flagged m zero [] = refl
none_flagged m (suc n) [] = refl
none_flagged m zero (x ∷ us) = ap (λ z. unit_under m false x ∷ z) (none_flagged m zero us)
none_flagged m (suc n) (x ∷ us) = ap (λ z. unit_under m false x ∷ z) (none_flagged m n us)

-- no unit loose by its flag
pub unflagged : {S : Type 0} (m : ℕ) (us : List (RigUnit S)) → units_under m (replicate 16 false) us ≡ map (unit_under m false) us
unflagged m us = none_flagged m 16 us

-- what is below
unit_beneath : {S : Type 0} (m : ℕ) (f : Bool) (x : RigUnit S) → UnitBeneath m x (unit_under m f x)
unit_beneath m true x = record { rules = refl; places = refl; held = λ a e. let z : ◌≡◌ {A = ℕ} 0 1 = cc in absurd (omega arith) }
unit_beneath m false x = record { rules = refl; places = refl; held = λ a e. e }

pub beneath : {S : Type 0} (m : ℕ) (fs : List Bool) (us : List (RigUnit S)) → Beneath m us (units_under m fs us)
beneath m fs us = record { count = sym (length_under m fs us); each = each_beneath }
  where
    each_beneath : (u : ℕ) (x y : RigUnit _) → slice_get us u ≡ Some x → slice_get (units_under m fs us) u ≡ Some y → UnitBeneath m x y
    each_beneath u x y below under =
        let e : Some (unit_under m (slice_index_or fs u false) x) ≡ Some y = ap (option_map (unit_under m (slice_index_or fs u false))) (sym below) ∙ sym (nth_under m fs us u) ∙ under in
        let q : unit_under m (slice_index_or fs u false) x ≡ y = cc in
        subst (UnitBeneath m x) q (unit_beneath m (slice_index_or fs u false) x)

-- the laws
module _ {S : Type 0} (m : ℕ) (k : Rules S) where
  suits_under : (o : Option (Held S)) → SuitsIn k o → SuitsIn (rules_under m k) o
  suits_under None s = tt
  suits_under (Some a) s = record { signals = s.signals; bound = λ xs e. omega (arith, s.bound xs e) }

  suits_flagged : (f : Bool) (o : Option (Held S)) → SuitsIn k o → SuitsIn (rules_under m k) (unit_under m f (record { rules = k; held = o; places = [] })).held
  suits_flagged true o s = tt
  suits_flagged false o s = suits_under o s

  all_suit : (ps : List (Option (Held S))) → AllByRecursion (SuitsIn k) ps → AllByRecursion (SuitsIn (rules_under m k)) ps
  all_suit [] a = tt
  all_suit (o ∷ ps) a = (suits_under o a.0, all_suit ps a.1)

sound_unit : {S : Type 0} (m : ℕ) (f : Bool) (x : RigUnit S) → SoundUnit x → SoundUnit (unit_under m f x)
sound_unit m f x s =
    record {
      rules = record { inputs = s.rules.inputs; outputs = s.rules.outputs; masks = s.rules.masks; reads = s.rules.reads };
      four = s.four;
      held = suits_flagged m x.rules f x.held s.held;
      kept = all_suit m x.rules x.places s.kept;
    }

each_sound : {S : Type 0} (m : ℕ) (fs : List Bool) (us : List (RigUnit S)) → AllByRecursion SoundUnit us → AllByRecursion SoundUnit (units_under m fs us)
each_sound m [] [] a = tt
each_sound m (f ∷ fs) [] a = tt
each_sound m [] (x ∷ us) a = (sound_unit m false x a.0, each_sound m [] us a.1)
each_sound m (f ∷ fs) (x ∷ us) a = (sound_unit m f x a.0, each_sound m fs us a.1)

pub sound_under : {S : Type 0} (m : ℕ) (fs : List Bool) (us : List (RigUnit S)) → Sound us → Sound (units_under m fs us)
sound_under m fs us s = record { few = omega (arith, length_under m fs us, s.few); each = each_sound m fs us s.each }
