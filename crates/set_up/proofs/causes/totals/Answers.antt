use Rattle.std.proofs.Common.{◌≡◌, ap, arith}
use Rattle.std.specs.List.{slice_get}
use Rattle.set_up.specs.Outputs.{input_count, output_count, ports_at}
use Rattle.set_up.proofs.Few.{few}
use Rattle.set_up.proofs.Totals.{more_count, inputs_in, outputs_in}
use Rattle.set_up.proofs.causes.totals.Goals as goal

pub loop-unit-preserved : goal.loop-unit-preserved
loop-unit-preserved g c =
    let us = g.R.Rig.model c.args.rig.now in
    let u = c.loop-unit.unit in
    let f = few us (g.met.R.Rig.sound c.args.rig.now) u in
    let i = inputs_in (slice_get us u) in
    let o = outputs_in (slice_get us u) in
    let mi = more_count input_count us u in
    let mo = more_count output_count us u in
    let pi : c.ports-more.result.inputs ≡ (ports_at us u).inputs = ap (λ z. z.inputs) c.ports-more.ensures in
    let po : c.ports-more.result.outputs ≡ (ports_at us u).outputs = ap (λ z. z.outputs) c.ports-more.ensures in
    record { inputs = omega arith; outputs = omega arith; few_inputs = omega arith; few_outputs = omega arith }
