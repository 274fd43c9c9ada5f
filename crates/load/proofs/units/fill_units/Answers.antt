use Rattle.std.proofs.Common.{◌≡◌, [], ◌∷◌, ◌++◌, length, Some, Err, sym, ap, ◌∙◌, subst}
use Rattle.file_rig.specs.Table.{names_of}
use Rattle.lines.specs.UnitLines.{unit_said, unit_line}
use Rattle.lines.specs.Headers.{cap_of}
use Rattle.files.specs.Positions.{position_of, start, ahead, passed}
use Rattle.files.specs.Heading.{heading_at, after_heading}
use Rattle.files.specs.Reading.{answer_at, unit_given}
use Rattle.grammar.specs.Files.{with_cap, lines_from, judge_unit}
use Rattle.grammar.proofs.Lines.{unit_proper}
use Rattle.grammar.proofs.Whole.{units_after, units_law}
use Rattle.load.specs.Loaded.{Begins}
use Rattle.load.specs.Filling.{UnitsFilled}
use Rattle.load.proofs.Reading.{LineAhead, line_ahead, err_given, fewer_left, lines_refused, head_refused, head_read}
use Rattle.load.proofs.Beginning.{left, left_on, begun, begun_more}
use Rattle.load.proofs.AddingUnits.{held_more, units_on}
use Rattle.load.proofs.units.fill_units.Goals as goal
use Rattle.load.proofs.units.fill_units.Goals.{In_ok-line}

-- the line that was read
line_read : (c : In_ok-line) → LineAhead (unit_line (names_of c.loop-answer.rig)) (position_of c.loop-answer.cursor) (unit_said c.in_ok-line.line)
line_read c = line_ahead _ _ _ (sym (ap unit_given (c.in-Some.is ∙ ap Some c.in_ok-line.was)) ∙ c.next_unit.ensures.answer)

-- the cursor stands past it
past_line : (c : In_ok-line) → position_of c.next_unit.new.self ≡ passed (position_of c.loop-answer.cursor) (length (line_read c).text)
past_line c = c.next_unit.ensures.cursor ∙ (line_read c).after

-- the file up to there has said one unit more
unit_begun : (c : In_ok-line) → Begins c.args.bytes.now c.in_ok-most.most (c.loop-answer.invariant.0 ++ unit_said c.in_ok-line.line ∷ []) (left (passed (position_of c.loop-answer.cursor) (length (line_read c).text)))
unit_begun c =
    let a = line_read c in
    begun_more _ _ a.text _ _ c.loop-answer.invariant.0 _ c.loop-answer.invariant.2 (ap (λ known. unit_line known a.text) (sym c.loop-answer.invariant.1.names) ∙ a.judged)
    (left_on (position_of c.loop-answer.cursor) a.text a.lines)

pub returns-in_err-most : goal.returns-in_err-most
returns-in_err-most c = record {
  filled = subst (λ r. UnitsFilled c.args.bytes.now r c.clear.new.self) (sym (err_given _ _ c.from_residual.ensures.1))
      (head_refused cap_of units_after c.args.bytes.now _
      (sym c.in_err-most.was ∙ (c.units_heading.ensures.answer ∙ ap (heading_at cap_of) c.new-cursor.ensures)));
  grammar = units_law c.args.bytes.now;
}

pub returns-in_err-add_line : goal.returns-in_err-add_line
returns-in_err-add_line c =
    let r = (goal.at.returns-in_err-add_line c).In_ok-line in
    record {
      filled = subst (λ r. UnitsFilled c.args.bytes.now r c.add_line.new.rig) (sym (err_given _ _ c.from_residual-in_err-add_line.ensures.1 ∙ ap (λ e. Err e) c.in_err-add_line.ensures.0))
          (c.in_ok-most.most, c.loop-answer.invariant.0, unit_said c.in_ok-line.line, _, unit_begun r);
      grammar = units_law c.args.bytes.now;
    }

pub returns-in_err-line : goal.returns-in_err-line
returns-in_err-line c =
    let p = position_of c.loop-answer.cursor in
    let e : Some (Err c.in_err-line.field-0.0) ≡ answer_at (judge_unit c.loop-answer.invariant.0) p =
    sym (ap unit_given (c.in-Some.is ∙ ap Some c.in_err-line.was)) ∙ (c.next_unit.ensures.answer ∙ ap (λ known. answer_at (unit_line known) p) c.loop-answer.invariant.1.names) in
    record {
      filled = subst (λ r. UnitsFilled c.args.bytes.now r c.loop-answer.rig) (sym (err_given _ _ c.from_residual-in_err-line.ensures.1))
          (c.loop-answer.invariant.3 ∙ ap (with_cap c.in_ok-most.most) (lines_refused judge_unit c.loop-answer.invariant.0 p c.in_err-line.field-0.0 e));
      grammar = units_law c.args.bytes.now;
    }

pub loop-answer-init : goal.loop-answer-init
loop-answer-init c =
    let h = head_read cap_of units_after c.args.bytes.now c.in_ok-most.most (sym c.in_ok-most.was ∙ (c.units_heading.ensures.answer ∙ ap (heading_at cap_of) c.new-cursor.ensures)) in
    let q : position_of c.units_heading.new.self ≡ passed (start c.args.bytes.now) (length h.first) =
    c.units_heading.ensures.cursor ∙ (ap (after_heading cap_of) c.new-cursor.ensures ∙ h.after) in (
      [],
      record { units = c.clear.ensures.units; names = c.clear.ensures.names },
      subst (λ p. Begins c.args.bytes.now c.in_ok-most.most [] (left p)) (sym q) (begun c.args.bytes.now h.first _ c.in_ok-most.most h.told (left_on (start c.args.bytes.now) h.first h.lines)),
      h.file ∙ sym (ap (λ p. with_cap c.in_ok-most.most (lines_from judge_unit p.line [] (ahead p))) q),
    )

pub add_line-requires : goal.add_line-requires
add_line-requires c =
    let a = line_read (goal.at.add_line-requires c).In_ok-line in
    unit_proper (names_of c.loop-answer.rig) a.text (unit_said c.in_ok-line.line) a.judged

pub loop-answer-preserved : goal.loop-answer-preserved
loop-answer-preserved c =
    let u = unit_said c.in_ok-line.line in
    let us = c.loop-answer.invariant.0 in
    let r = (goal.at.loop-answer-preserved c).In_ok-line in (
      us ++ u ∷ [],
      held_more c.loop-answer.rig c.add_line.new.rig us u c.loop-answer.invariant.1 c.in_ok-add_line.ensures,
      subst (λ p. Begins c.args.bytes.now c.in_ok-most.most (us ++ u ∷ []) (left p)) (sym (past_line r)) (unit_begun r),
      c.loop-answer.invariant.3 ∙ ap (with_cap c.in_ok-most.most) (units_on (names_of c.loop-answer.rig) us u (position_of c.loop-answer.cursor) c.loop-answer.invariant.1.names (line_read r)
          ∙ sym (ap (λ p. lines_from judge_unit p.line (us ++ u ∷ []) (ahead p)) (past_line r))),
    )

pub loop-answer-smaller : goal.loop-answer-smaller
loop-answer-smaller c =
    fewer_left (position_of c.loop-answer.cursor) (position_of c.next_unit.new.self) _ (past_line (goal.at.loop-answer-smaller c).In_ok-line) c.next_unit.new.self.within
