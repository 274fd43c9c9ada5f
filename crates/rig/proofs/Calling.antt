-- A call of one unit, as a call of its rig.
use Rattle.std.proofs.Common.{◌≡◌, ℕ, zero, suc, ◌<◌, ◌≤◌, List, [], ◌∷◌, length, set, Some, Err, Result, sym, refl, ap, ◌∙◌, ⊎_elim, arith}
use Rattle.std.specs.List.{slice_get}
use Rattle.std.proofs.lemmas.Option.{slice_get_past, slice_get_cases, get_or_from_slice_get}
use Rattle.std.proofs.lemmas.List.{set-get_or}
use Rattle.rig.specs.declared.cause.Cause.{Cause}
use Rattle.rig.specs.declared.cause.Cause.TheVariants.{NoSuch}
use Rattle.rig.specs.Units.{RigUnit}
use Rattle.rig.specs.Calls.{Call, Called, UnitCalled, answer_of, answer_in, blamed, after_in}

pub nth_some : {X : Type 0} (us : List X) (u : ℕ) → u < length us → (x : X) × (slice_get us u ≡ Some x)
nth_some us u h = ⊎_elim (λ w. (w.0, w.2)) (λ p. absurd (omega (arith, h, p.0))) (slice_get_cases us u).1

pub set_nth : {X : Type 0} (us : List X) (u : ℕ) (x : X) → slice_get us u ≡ Some x → set us u x ≡ us
set_nth us u x e = ap (set us u) (sym (get_or_from_slice_get us u x x e)) ∙ set-get_or us u x

-- unit u is there
module _ {S T : Type 0} (k : Call S T) (us : List (RigUnit S)) (u : ℕ) {x : RigUnit S} (there : slice_get us u ≡ Some x) where
  pub answer_there : {r : Result T Cause} → r ≡ k.answer x → blamed u k.target r ≡ answer_of k us u
  answer_there e = ap (blamed u k.target) (e ∙ sym (ap (answer_in k) there))

  pub called_there : {y : RigUnit S} {r : Result T Cause} → UnitCalled k x r y → Called k us u (blamed u k.target r) (set us u y)
  called_there d = record { answer = answer_there d.answer; units = ap (set us u) d.unit ∙ sym (ap (after_in k us u) there) }

-- unit u is not there
module _ {S T : Type 0} (k : Call S T) (us : List (RigUnit S)) (u : ℕ) (missing : length us ≤ u) where
  pub answer_missing : Err (record { cause = NoSuch; unit = u; target = k.target }) ≡ answer_of k us u
  answer_missing = ap (blamed u k.target) (sym (ap (answer_in k) (slice_get_past us u missing)))

  pub called_missing : Called k us u (Err (record { cause = NoSuch; unit = u; target = k.target })) us
  called_missing = record { answer = answer_missing; units = sym (ap (after_in k us u) (slice_get_past us u missing)) }
