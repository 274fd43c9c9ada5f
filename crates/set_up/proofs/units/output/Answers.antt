use Rattle.std.proofs.Common.{◌≡◌, ap, sym, arith}
use Rattle.std.specs.List.{slice_get}
use Rattle.set_up.specs.Outputs.{output_count, ports_at}
use Rattle.set_up.proofs.Totals.{more_count, outputs_in}
use Rattle.set_up.proofs.Numbered.{output_found, output_past}
use Rattle.set_up.proofs.units.output.Goals as goal

pub loop-unit-preserved : goal.loop-unit-preserved
loop-unit-preserved g c =
    let us = g.R.Rig.model c.args.rig.now in
    let u = c.loop-unit.unit in
    let m = more_count output_count us u in
    let o = outputs_in (slice_get us u) in
    let p : c.ports-outputs.result.outputs ≡ (ports_at us u).outputs = ap (λ z. z.outputs) c.ports-outputs.ensures in
    omega arith

pub returns-then-left-outputs : goal.returns-then-left-outputs
returns-then-left-outputs g c =
    let us = g.R.Rig.model c.args.rig.now in
    let p : c.ports-outputs.result.outputs ≡ (ports_at us c.loop-unit.unit).outputs = ap (λ z. z.outputs) c.ports-outputs.ensures in
    sym (output_found us c.loop-unit.unit c.loop-unit.left c.args.number c.loop-unit.invariant (omega arith))

pub returns : goal.returns
returns g c = sym (output_past (g.R.Rig.model c.args.rig.now) c.loop-unit.unit c.loop-unit.left c.args.number c.loop-unit.invariant (omega arith))
