use Rattle.std.proofs.Common.{◌≡◌, ◌<◌, ap, refl, arith}
use Rattle.set_up.specs.Outputs.{ports_at}
use Rattle.set_up.proofs.Listed.{port_listed}
use Rattle.set_up.proofs.table.Outputs.add_unit.Goals as goal

pub loop-port-preserved : goal.loop-port-preserved
loop-port-preserved g c =
    let us = g.R.Rig.model c.args.rig.now in
    let i = c.loop-port.invariant.count in
    let t = c.loop-port-test.true in
    let r = c.requires in
    let p : c.ports-port-end.result.outputs ≡ (ports_at us c.args.unit).outputs = ap (λ z. z.outputs) c.ports-port-end.ensures in
    let room : c.loop-port.self.count < 64 = omega arith in
    let m = c.push.ensures.0 in
    record {
      count = omega arith;
      lists = λ before l. port_listed us before c.args.unit c.loop-port.port c.loop-port.self c.push.new.self _ (c.loop-port.invariant.lists before l) room c.push.ensures refl c.mask.ensures;
    }
