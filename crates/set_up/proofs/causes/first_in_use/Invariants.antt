use Rattle.std.proofs.Common.{ℕ, ◌<◌}
use Rattle.set_up.specs.Causes.{IsInUse}
use Rattle.set_up.proofs.causes.first_in_use.Given as goal

abbrev pub invariant-loop-unit : goal.invariant-loop-unit
invariant-loop-unit g l = (v : ℕ) → v < l.unit → IsInUse (g.R.Rig.model l.rig) v → ⊥
