-- Worked cases of the rules, as one fact.
use Rattle.std.specs.Prelude.{◌≡◌, [], ◌∷◌, ℕ, ◌≤◌, ℤ, pos, negsuc, ◌≤ℤ◌}
use Rattle.kinds.specs.Rules.{integrator, gain, bound_by, Between, LongestStep}

-- an integrator with x 5 and lo 0, emptied by 1 a tick, for every hi from 5 on: m stops it, or the lower stop does
pub record Emptied : Type 0 where
  pub by_stop : (hi : ℤ) → pos 5 ≤ℤ hi → integrator.bound (pos 5 ∷ pos 0 ∷ hi ∷ pos 100 ∷ []) (negsuc 0 ∷ []) ≡ 5
  pub by_limit : (hi : ℤ) → pos 5 ≤ℤ hi → integrator.bound (pos 5 ∷ pos 0 ∷ hi ∷ pos 4 ∷ []) (negsuc 0 ∷ []) ≡ 4

-- one with x 2, hi 20 and m 100, filled by 3 a tick, for every lo up to 2: six ticks fill it to the stop
pub record Filled : Type 0 where
  pub bound : (lo : ℤ) → lo ≤ℤ pos 2 → integrator.bound (pos 2 ∷ lo ∷ pos 20 ∷ pos 100 ∷ []) (pos 3 ∷ []) ≡ 6
  pub next : (lo : ℤ) → lo ≤ℤ pos 2 → integrator.next (pos 2 ∷ lo ∷ pos 20 ∷ pos 100 ∷ []) (pos 3 ∷ []) 6 ≡ pos 20 ∷ lo ∷ pos 20 ∷ pos 100 ∷ []

pub record WorkedCases : Type 0 where
  pub emptied : Emptied
  pub filled : Filled
  -- a tick too long for the room that is left
  pub stuck : (lo : ℤ) (m : ℕ) → lo ≤ℤ pos 19 → integrator.bound (pos 19 ∷ lo ∷ pos 20 ∷ pos m ∷ []) (pos 3 ∷ []) ≡ 0
  -- the whole range in one tick
  pub furthest : (hi : ℤ) (m : ℕ) → pos 0 ≤ℤ hi → 1 ≤ m → integrator.bound (pos 0 ∷ negsuc 2147483647 ∷ hi ∷ pos m ∷ []) (negsuc 2147483647 ∷ []) ≡ 1
  -- a sum far above the signal range is held to it
  pub held : gain.out 0 (pos 1000 ∷ pos 1000 ∷ pos 0 ∷ []) (pos 2147483647 ∷ pos 2147483647 ∷ []) ≡ pos 2147483647
  -- BOUND of an integrator within its stops is the longest step, up to m, that keeps it within them
  pub longest : (x lo hi : ℤ) (m : ℕ) (u : ℤ) → Between lo x hi → LongestStep x lo hi m u (bound_by x lo hi m u)
