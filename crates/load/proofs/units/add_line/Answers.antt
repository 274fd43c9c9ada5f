use Rattle.lines.specs.UnitLines.{unit_said}
use Rattle.load.proofs.AddingUnits.{only_memory}
use Rattle.load.proofs.units.add_line.Goals as goal

pub unreachable-requires : goal.unreachable-requires
unreachable-requires c =
    only_memory c.args.rig.now c.add.new.self (unit_said c.args.line.now) c.name.result.now c.design.result c.name.ensures c.design.ensures c.requires
    c.in-Err.fault c.in-Err.ensures c.in_default.not-NoMemory
