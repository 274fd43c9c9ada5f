use Rattle.std.proofs.Common.{◌≡◌, ◌-◌, List, length}
use Rattle.lines.specs.UnitLines.{UnitSaid}
use Rattle.files.specs.Positions.{position_of, ahead}
use Rattle.grammar.specs.Files.{units_file, with_cap, lines_from, judge_unit}
use Rattle.load.specs.Loaded.{HoldsUnits, Begins}
use Rattle.load.proofs.Beginning.{left}
use Rattle.load.proofs.units.fill_units.Given as goal

abbrev pub invariant-loop-answer : goal.invariant-loop-answer
invariant-loop-answer l =
    (us : List UnitSaid) × HoldsUnits l.rig us × Begins l.bytes l.most us (left (position_of l.cursor))
    × (units_file l.bytes ≡ with_cap l.most (lines_from judge_unit l.cursor.line us (ahead (position_of l.cursor))))

abbrev pub decreases-loop-answer : goal.decreases-loop-answer
decreases-loop-answer l = length l.cursor.bytes.now - l.cursor.at
