use Rattle.std.proofs.Common.{◌≡◌, ◌≤◌, ◌*◌, length, take}
use Rattle.set_up.specs.Outputs.{inputs_of, outputs_of}
use Rattle.set_up.proofs.causes.totals.Given as goal

abbrev pub invariant-loop-unit : goal.invariant-loop-unit
invariant-loop-unit g l = record {
  inputs : l.all.inputs ≡ length (inputs_of (take l.unit (g.R.Rig.model l.rig)));
  outputs : l.all.outputs ≡ length (outputs_of (take l.unit (g.R.Rig.model l.rig)));
  few_inputs : l.all.inputs ≤ 8 * l.unit;
  few_outputs : l.all.outputs ≤ 8 * l.unit;
}
