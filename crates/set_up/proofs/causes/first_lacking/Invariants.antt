use Rattle.std.proofs.Common.{◌≡◌, ◌<◌}
use Rattle.wiring.specs.declared.port.Port.{Port}
use Rattle.set_up.specs.Causes.{IsLacking}
use Rattle.set_up.proofs.causes.first_lacking.Given as goal

abbrev pub invariant-loop-port : goal.invariant-loop-port
invariant-loop-port g l = ((to : Port) → to.unit < l.unit → IsLacking (g.R.Rig.model l.rig) l.wiring to → ⊥) × ((to : Port) → to.unit ≡ l.unit → to.port < l.port → IsLacking (g.R.Rig.model l.rig) l.wiring to → ⊥)

abbrev pub invariant-loop-unit : goal.invariant-loop-unit
invariant-loop-unit g l = (to : Port) → to.unit < l.unit → IsLacking (g.R.Rig.model l.rig) l.wiring to → ⊥
