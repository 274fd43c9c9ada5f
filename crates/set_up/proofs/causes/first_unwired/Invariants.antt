use Rattle.std.proofs.Common.{◌≡◌, ◌<◌}
use Rattle.wiring.specs.declared.port.Port.{Port}
use Rattle.set_up.specs.Causes.{IsUnwired}
use Rattle.set_up.proofs.causes.first_unwired.Given as goal

abbrev pub invariant-loop-port : goal.invariant-loop-port
invariant-loop-port g l = ((to : Port) → to.unit < l.unit → IsUnwired (g.R.Rig.model l.rig) l.wiring to → ⊥) × ((to : Port) → to.unit ≡ l.unit → to.port < l.port → IsUnwired (g.R.Rig.model l.rig) l.wiring to → ⊥)

abbrev pub invariant-loop-unit : goal.invariant-loop-unit
invariant-loop-unit g l = (to : Port) → to.unit < l.unit → IsUnwired (g.R.Rig.model l.rig) l.wiring to → ⊥
