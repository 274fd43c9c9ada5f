-- The rules of a trip. Its state is its future: the ticks left, the present value, and the later pairs, ticks then value.
use Rattle.std.specs.Prelude.{ℕ, ◌-◌, cond, List, [], ◌∷◌, ℤ, pos, ◌==◌, unsigned_abs}
use Rattle.rig.specs.Units.{Rules, item}

-- NEXT: h ticks fewer are left; where none is left the next pair is at once the present one, if there is one
abbrev pub next_future : List ℤ → ℕ → List ℤ
next_future [] h = []
next_future (t ∷ []) h = t ∷ []
next_future (t ∷ v ∷ []) h = pos (unsigned_abs t - h) ∷ v ∷ []
next_future (t ∷ v ∷ z ∷ zs) h = cond (unsigned_abs t == h) (z ∷ zs) (pos (unsigned_abs t - h) ∷ v ∷ z ∷ zs)

-- no input; the output is the present value; BOUND is the ticks left
abbrev pub trip : Rules ℤ
trip = record {
  inputs = 0;
  masks = 0 ∷ [];
  out = λ port st ins. item st 1;
  bound = λ st ins. unsigned_abs (item st 0);
  next = λ st ins h. next_future st h;
}
