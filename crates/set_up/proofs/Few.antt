-- A rig has at most 16 units with at most 8 inputs and 8 outputs each.
use Rattle.std.proofs.Common.{◌≡◌, ℕ, zero, suc, ◌<◌, ◌≤◌, List, [], ◌∷◌, Some, None, Option, refl, subst, ⊎_elim, arith}
use Rattle.std.specs.List.{slice_get, AllByRecursion}
use Rattle.std.proofs.lemmas.Bool.{cases_lt}
use Rattle.std.proofs.lemmas.Option.{slice_get_past}
use Rattle.rig.specs.Units.{RigUnit}
use Rattle.rig.specs.Laws.{Sound, SoundUnit}
use Rattle.rig.specs.declared.shape.Ports.{Ports}
use Rattle.wiring.specs.declared.port.Port.{Port}
use Rattle.wiring.specs.declared.table.Wiring.{Wiring}
use Rattle.set_up.specs.Outputs.{ports_in, ports_at}
use Rattle.set_up.specs.Causes.{IsUnwired}

all_at : {X : Type 0} (P : X → Type 0) (xs : List X) (i : ℕ) (x : X) → AllByRecursion P xs → slice_get xs i ≡ Some x → P x
all_at P [] i x a e = cc
all_at P (y ∷ xs) zero x a e = let q : y ≡ x = cc in subst P q a.0
all_at P (y ∷ xs) (suc i) x a e = all_at P xs i x a.1 e

-- at most 8 ports of either kind
pub record FewPorts (p : Ports) : Type 0 where
  pub inputs : p.inputs ≤ 8
  pub outputs : p.outputs ≤ 8

module _ {S : Type 0} (us : List (RigUnit S)) (sound : Sound us) (u : ℕ) where
  few_in : (o : Option (RigUnit S)) → slice_get us u ≡ o → FewPorts (ports_in o)
  few_in None e = record { inputs = omega arith; outputs = omega arith }
  few_in (Some x) e = let s = all_at SoundUnit us u x sound.each e in record { inputs = s.rules.inputs; outputs = s.rules.outputs }

  pub few : FewPorts (ports_at us u)
  few = few_in (slice_get us u) refl

  -- a unit with an input is there
  pub unit_there : (i : ℕ) → i < (ports_at us u).inputs → u < 16
  unit_there i lt =
      let n = sound.few in
      ⊎_elim (λ (l : u < 16). l) (λ (past : 16 ≤ u).
      let e : slice_get us u ≡ None = slice_get_past us u (omega arith) in
      let z : i < 0 = subst (λ o. i < (ports_in o).inputs) e lt in
      absurd (omega arith)) (cases_lt u 16)

pub unwired_within : {S : Type 0} (us : List (RigUnit S)) → Sound us → (w : Wiring) (to : Port) → IsUnwired us w to → (to.unit < 16) × (to.port < 8)
unwired_within us sound w to i =
    let f = (few us sound to.unit).inputs in
    let l = i.input in
    (unit_there us sound to.unit to.port l, omega arith)
