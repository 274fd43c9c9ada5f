-- A unit that keeps its own contents obeys the laws of a rig's unit.
use Rattle.std.specs.Prelude.{◌≡◌, ℕ, ◌≤◌, Bool, true, List, [], ◌∷◌, map, length, Some, None, Option}
use Rattle.std.proofs.Common.{◌∙◌, arith}
use Rattle.std.proofs.lemmas.List.{length-map}
use Rattle.std.proofs.lemmas.Bool.{and_parts}
use Rattle.std.specs.Option.{option_map}
use Rattle.std.specs.List.{AllByRecursion}
use Rattle.rig.specs.Units.{Rules, Held, RigUnit}
use Rattle.rig.specs.Laws.{Suits, SuitsIn, SoundRules, SoundUnit, Sound}
use Rattle.memory.specs.declared.store.Memory.{Memory}
use Rattle.memory.specs.Kept.{unit_from}
use Rattle.unit_rig.specs.Own.{own_in, all_own}

module _ {C S : Type 0} (k : Rules S) (read : C → Held S) (owns : C → Bool) (sound : SoundRules k) (suits : (c : C) → owns c ≡ true → Suits k (read c)) where
  suits_in : (o : Option C) → own_in owns o ≡ true → SuitsIn k (option_map read o)
  suits_in None own = tt
  suits_in (Some c) own = suits c own

  all_suit : (ps : List (Option C)) → all_own owns ps ≡ true → AllByRecursion (SuitsIn k) (map (option_map read) ps)
  all_suit [] own = tt
  all_suit (o ∷ ps) own = let w = and_parts (own_in owns o) (all_own owns ps) own in (suits_in o w.0, all_suit ps w.1)

  pub sound_unit : (m : Memory C) → own_in owns m.held ≡ true → all_own owns m.places ≡ true → SoundUnit (unit_from k read m)
  sound_unit m holds keeps =
      record {
        rules = sound;
        four = length-map m.places (option_map read) ∙ m.four;
        held = suits_in m.held holds;
        kept = all_suit m.places keeps;
      }

-- so do the units of a list of at most 16
module _ {U S : Type 0} (model : U → RigUnit S) (sound : (x : U) → SoundUnit (model x)) where
  each_sound : (xs : List U) → AllByRecursion SoundUnit (map model xs)
  each_sound [] = tt
  each_sound (x ∷ xs) = (sound x, each_sound xs)

  pub sound_list : (xs : List U) {n : ℕ} → n ≡ length xs → n ≤ 16 → Sound (map model xs)
  sound_list xs count few = record { few = simp length-map (omega (arith, count, few)); each = each_sound xs }
