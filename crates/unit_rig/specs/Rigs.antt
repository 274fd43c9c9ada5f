-- The units of a rig over one behaviour, and that they obey the laws of a rig.
use Rattle.std.specs.Prelude.{◌≡◌, true, List, map, vec_items}
use Rattle.rig.specs.declared.behaviour.Behaviour as behaviours
use Rattle.rig.specs.Units.{RigUnit}
use Rattle.rig.specs.Laws.{Suits, SoundRules, Sound}
use Rattle.memory.specs.Kept.{unit_from}
use Rattle.unit_rig.specs.declared.calls.UnitCalls as calls
use Rattle.unit_rig.specs.declared.unit.Unit.{Unit}
use Rattle.unit_rig.specs.declared.list.UnitRig.{UnitRig}
use Rattle.unit_rig.specs.Soundness.{sound_unit, sound_list}

-- b and u: what a behaviour, and a unit over it, are to their traits
module _ {L B S C : Type 0} {b : behaviours.Ghosts B S C} {u : calls.Ghosts (Unit L B S C b) S L} where
  -- each unit by the rules of its behaviour, and by what its memory is read as
  abbrev pub units_in : UnitRig (Unit L B S C b) S L u → List (RigUnit S)
  units_in t = map (λ x. unit_from (b.rules x.behaviour) (b.read x.behaviour) x.memory) (vec_items t.units)

  pub sound_units : ((x : B) → SoundRules (b.rules x)) → ((x : B) (c : C) → b.owns x c ≡ true → Suits (b.rules x) (b.read x c)) → (t : UnitRig (Unit L B S C b) S L u) → Sound (units_in t)
  sound_units sound suits t = sound_list _ (λ x. sound_unit _ _ _ (sound x.behaviour) (suits x.behaviour) x.memory x.holds x.keeps) (vec_items t.units) t.units.ok.0 t.few
