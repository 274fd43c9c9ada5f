-- What the calls of a behaviour give, by the rules of its unit and by what its contents are read as.
use Rattle.std.specs.Prelude.{◌≡◌, ℕ, ◌<◌, ◌≤◌, Bool, true, Option, MatchOption, slice_set}
use Rattle.rig.specs.Units.{Rules, Held}

abbrev pub OutOf : {S : Type 0} → Rules S → Held S → ℕ → S → Type 0
OutOf k a port v = v ≡ k.out port a.state a.inputs

abbrev pub BoundOf : {S : Type 0} → Rules S → Held S → ℕ → Type 0
BoundOf k a h = h ≡ k.bound a.state a.inputs

-- contents that are the unit's own and are read as this
pub record OwnAs {C S : Type 0} (owns : C → Bool) (read : C → Held S) (after : C) (a : Held S) : Type 0 where
  pub own : owns after ≡ true
  pub held : read after ≡ a

-- moved by NEXT, or none where BOUND is less than h
abbrev pub NextOf : {C S : Type 0} → Rules S → (C → Bool) → (C → Held S) → C → ℕ → Option C → Type 0
NextOf k owns read c h r = MatchOption r (k.bound (read c).state (read c).inputs < h)
    (λ after. (h ≤ k.bound (read c).state (read c).inputs) × OwnAs owns read after (record { state = k.next (read c).state (read c).inputs h; inputs = (read c).inputs }))

-- one input set; a port that is no input sets none
abbrev pub FedFrom : {C S : Type 0} → (C → Bool) → (C → Held S) → C → ℕ → S → C → Type 0
FedFrom owns read c port v after = OwnAs owns read after (record { state = (read c).state; inputs = slice_set (read c).inputs port v })
