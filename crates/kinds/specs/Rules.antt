-- OUT, BOUND and NEXT of the three kinds.
use Rattle.std.specs.Prelude.{ℕ, zero, suc, ◌/◌, ◌≤◌, min, [], ◌∷◌, ℤ, pos, negsuc, ◌+ℤ◌, ◌-ℤ◌, ◌*ℤ◌, ◌≤ℤ◌, slice_set, unsigned_abs}
use Rattle.std.specs.Int.{saturate_to_bits}
use Rattle.rig.specs.Units.{Rules, item}

-- how far a number lies above 0
abbrev pub room : ℤ → ℕ
room (pos n) = n
room (negsuc n) = 0

-- BOUND of an integrator at x: m where the input u is 0; else the lesser of m and the whole ticks until the stop that u moves it towards
abbrev pub bound_by : ℤ → ℤ → ℤ → ℕ → ℤ → ℕ
bound_by x lo hi m (pos zero) = m
bound_by x lo hi m (pos (suc n)) = min m (room (hi -ℤ x) / suc n)
bound_by x lo hi m (negsuc n) = min m (room (x -ℤ lo) / suc n)

-- a number within two others
pub record Between (lo x hi : ℤ) : Type 0 where
  pub above : lo ≤ℤ x
  pub below : x ≤ℤ hi

-- h ticks of u lead from x to a number within lo and hi, and are at most m
pub record Takes (x lo hi : ℤ) (m : ℕ) (u : ℤ) (h : ℕ) : Type 0 where
  pub limit : h ≤ m
  pub stops : Between lo (x +ℤ u *ℤ pos h) hi

-- what BOUND means: every step up to b is taken, and no longer one
pub record LongestStep (x lo hi : ℤ) (m : ℕ) (u : ℤ) (b : ℕ) : Type 0 where
  pub takes : (h : ℕ) → h ≤ b → Takes x lo hi m u h
  pub longest : (h : ℕ) → Takes x lo hi m u h → h ≤ b

-- the nearest number of the signal range, −2,147,483,648 to 2,147,483,647
abbrev pub to_signal : ℤ → ℤ
to_signal z = saturate_to_bits 31 z

-- state x, lo, hi, m; input u
abbrev pub integrator : Rules ℤ
integrator = record {
  inputs = 1;
  masks = 0 ∷ [];
  out = λ port st ins. item st 0;
  bound = λ st ins. bound_by (item st 0) (item st 1) (item st 2) (unsigned_abs (item st 3)) (item ins 0);
  next = λ st ins h. slice_set st 0 (item st 0 +ℤ item ins 0 *ℤ pos h);
}

-- state a, b, c; inputs u0, u1
abbrev pub gain : Rules ℤ
gain = record {
  inputs = 2;
  masks = 3 ∷ [];
  out = λ port st ins. to_signal (item st 0 *ℤ item ins 0 +ℤ item st 1 *ℤ item ins 1 +ℤ item st 2);
  bound = λ st ins. 1000000;
  next = λ st ins h. st;
}

-- state v
abbrev pub constant : Rules ℤ
constant = record {
  inputs = 0;
  masks = 0 ∷ [];
  out = λ port st ins. item st 0;
  bound = λ st ins. 1000000;
  next = λ st ins h. st;
}
