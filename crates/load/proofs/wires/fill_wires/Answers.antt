use Rattle.std.proofs.Common.{◌≡◌, [], ◌∷◌, ◌++◌, length, Some, Err, sym, ap, ◌∙◌}
use Rattle.file_rig.specs.Table.{names_of}
use Rattle.lines.specs.Headers.{wires_head}
use Rattle.files.specs.Positions.{position_of, start, ahead, passed}
use Rattle.files.specs.Heading.{heading_at, after_heading}
use Rattle.grammar.specs.Files.{fault_at, lines_from, judge_wire}
use Rattle.grammar.proofs.Lines.{wire_proper}
use Rattle.grammar.proofs.Whole.{wires_after, wires_law}
use Rattle.load.proofs.Reading.{fewer_left, head_read}
use Rattle.load.proofs.AddingWires.{WireAhead, wire_ahead, few_names, wires_on, wires_twice, held_wire}
use Rattle.load.proofs.wires.fill_wires.Goals as goal
use Rattle.load.proofs.wires.fill_wires.Goals.{In_ok-line}

-- the line that was read
line_read : (c : In_ok-line) → WireAhead (names_of c.args.rig.now) (position_of c.loop-answer.cursor) c.in_ok-line.line
line_read c = wire_ahead (c.in-Some.is ∙ ap Some c.in_ok-line.was) c.next_wire.ensures.answer

-- the cursor stands past it
past_line : (c : In_ok-line) → position_of c.next_wire.new.self ≡ passed (position_of c.loop-answer.cursor) (length (line_read c).ahead.text)
past_line c = c.next_wire.ensures.cursor ∙ (line_read c).ahead.after

pub loop-answer-init : goal.loop-answer-init
loop-answer-init c =
    let known = names_of c.args.rig.now in
    let h = head_read wires_head (wires_after known) c.args.bytes.now tt
    (sym c.in_ok-wires_heading.was ∙ (c.wires_heading.ensures.answer ∙ ap (heading_at wires_head) c.new-cursor.ensures)) in
    let q : position_of c.wires_heading.new.self ≡ passed (start c.args.bytes.now) (length h.first) =
    c.wires_heading.ensures.cursor ∙ (ap (after_heading wires_head) c.new-cursor.ensures ∙ h.after) in (
      [],
      c.clear.ensures,
      h.file ∙ sym (ap (λ p. lines_from (judge_wire known) p.line [] (ahead p)) q),
    )

pub add_wire-requires : goal.add_wire-requires
add_wire-requires c =
    let known = names_of c.args.rig.now in
    let a = line_read (goal.at.add_wire-requires c).In_ok-line in
    (few_names c.args.rig.now, (a.wire, a.names, wire_proper known a.ahead.text a.wire a.ahead.judged))

pub returns-in-Err : goal.returns-in-Err
returns-in-Err c =
    let known = names_of c.args.rig.now in
    let p = position_of c.loop-answer.cursor in
    let ws = c.loop-answer.invariant.0 in
    let a = line_read (goal.at.returns-in-Err c).In_ok-line in
    let t = c.in-Err.ensures a.wire a.names in
    record {
      filled = c.loop-answer.invariant.2 ∙ (wires_twice known ws a.wire p a.ahead t.1.0 (sym (c.loop-answer.invariant.1 a.wire.to.unit a.wire.to.port) ∙ t.1.1)
          ∙ (ap (λ l. Err (fault_at l _)) (sym c.line-number.ensures) ∙ ap (λ e. Err (fault_at c.line-number.result e)) (sym t.0)));
      grammar = wires_law known c.args.bytes.now;
    }

pub loop-answer-preserved : goal.loop-answer-preserved
loop-answer-preserved c =
    let known = names_of c.args.rig.now in
    let p = position_of c.loop-answer.cursor in
    let ws = c.loop-answer.invariant.0 in
    let r = (goal.at.loop-answer-preserved c).In_ok-line in
    let a = line_read r in
    let t = c.in_default-add_wire.ensures a.wire a.names in (
      ws ++ a.wire ∷ [],
      held_wire c.loop-answer.wiring c.add_wire.new.wiring ws a.wire c.loop-answer.invariant.1 t.0 t.1,
      c.loop-answer.invariant.2 ∙ (wires_on known ws a.wire p a.ahead (sym (c.loop-answer.invariant.1 a.wire.to.unit a.wire.to.port) ∙ t.0)
          ∙ sym (ap (λ q. lines_from (judge_wire known) q.line (ws ++ a.wire ∷ []) (ahead q)) (past_line r))),
    )

pub loop-answer-smaller : goal.loop-answer-smaller
loop-answer-smaller c =
    fewer_left (position_of c.loop-answer.cursor) (position_of c.next_wire.new.self) _ (past_line (goal.at.loop-answer-smaller c).In_ok-line) c.next_wire.new.self.within
