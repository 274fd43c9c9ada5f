use Rattle.std.proofs.Common.{ℕ, ◌<◌}
use Rattle.set_up.specs.Outputs.{ReadsAt}
use Rattle.set_up.proofs.feeding.reads.Given as goal

abbrev pub invariant-loop-port : goal.invariant-loop-port
invariant-loop-port l = (i : ℕ) → i < l.port → ReadsAt l.wiring l.from l.unit l.mask i → ⊥
