use Rattle.std.proofs.Common.{◌≡◌, ◌-◌, List, length}
use Rattle.file_rig.specs.Table.{names_of}
use Rattle.lines.specs.WireLines.{Wire}
use Rattle.files.specs.Positions.{position_of, ahead}
use Rattle.grammar.specs.Files.{wires_file, lines_from, judge_wire}
use Rattle.load.specs.Loaded.{HoldsWires}
use Rattle.load.proofs.wires.fill_wires.Given as goal

abbrev pub invariant-loop-answer : goal.invariant-loop-answer
invariant-loop-answer l =
    (ws : List Wire) × HoldsWires l.wiring ws
    × (wires_file (names_of l.rig) l.bytes ≡ lines_from (judge_wire (names_of l.rig)) l.cursor.line ws (ahead (position_of l.cursor)))

abbrev pub decreases-loop-answer : goal.decreases-loop-answer
decreases-loop-answer l = length l.cursor.bytes.now - l.cursor.at
