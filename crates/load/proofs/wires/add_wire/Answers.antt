use Rattle.std.proofs.Common.{ap, ◌∙◌}
use Rattle.file_rig.specs.Table.{names_of}
use Rattle.lines.specs.Known.{unit_named}
use Rattle.lines.specs.WireLines.{end_said}
use Rattle.load.proofs.AddingWires.{ends_within, out_of_range}
use Rattle.load.proofs.wires.add_wire.Goals as goal

pub resolve-from-requires : goal.resolve-from-requires
resolve-from-requires c = (c.requires.1.0.from.unit, ap (λ s. unit_named (names_of c.args.rig.now) s.name) c.source.ensures ∙ c.requires.1.1.from.unit)

pub resolve-to-requires : goal.resolve-to-requires
resolve-to-requires c = (c.requires.1.0.to.unit, ap (λ s. unit_named (names_of c.args.rig.now) s.name) c.target.ensures ∙ c.requires.1.1.to.unit)

pub unreachable-requires : goal.unreachable-requires
unreachable-requires c =
    out_of_range c.args.wiring.now c.add.new.self c.resolve-from.result c.resolve-to.result c.in-Err-OutOfRange.field-0 c.in-Err-OutOfRange.field-0-0 c.in-Err-OutOfRange.field-0-is c.in-Err-OutOfRange.ensures
    (ends_within (names_of c.args.rig.now) c.requires.0 c.args.line.now c.requires.1.0 c.requires.1.1 c.requires.1.2
    (end_said c.source.result) c.source.ensures c.resolve-from.result c.resolve-from.ensures
    (end_said c.target.result) c.target.ensures c.resolve-to.result c.resolve-to.ensures)
