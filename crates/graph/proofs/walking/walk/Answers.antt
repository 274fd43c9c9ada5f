use Rattle.std.proofs.Common.{◌-◌, length, get_or, refl, ap, ◌∙◌, arith}
use Rattle.graph.proofs.Walks.{some_room, step, never_closed, onward, short_from, on_path, shown, begin}
use Rattle.graph.proofs.walking.walk.Goals as goal

pub loop-feeder-init : goal.loop-feeder-init
loop-feeder-init c = (begin _ _ _ _ _ c.args.arcs.now.few c.requires.lengths.1 refl c.requires.start.node c.requires.start.open_still c.requires.start.stuck c.requires.start.bits, refl)

pub overflow_sub-top : goal.overflow_sub-top
overflow_sub-top c = some_room _ _ _ _ _ _ c.loop-feeder.invariant.0

pub unreachable-requires : goal.unreachable-requires
unreachable-requires c =
    let h = some_room _ _ _ _ _ _ c.loop-feeder.invariant.0 in
    let w = step _ _ _ _ (c.loop-feeder.top - 1) _ _ (omega arith) c.loop-feeder.invariant.0 in
    never_closed _ _ _ _ _ _ w c.in_default.ensures

pub copy_until-requires : goal.copy_until-requires
copy_until-requires c =
    let h = some_room _ _ _ _ _ _ c.loop-feeder.invariant.0 in
    let w = step _ _ _ _ (c.loop-feeder.top - 1) _ _ (omega arith) c.loop-feeder.invariant.0 in
    record { lengths = (short_from _ _ _ _ _ _ w, ap length c.loop-feeder.invariant.1 ∙ c.requires.lengths.0); met = on_path _ _ _ _ _ _ _ w c.if-marks-feeder-eq-ON_PATH.true }

pub returns-then-marks-feeder-eq-ON_PATH : goal.returns-then-marks-feeder-eq-ON_PATH
returns-then-marks-feeder-eq-ON_PATH c =
    let h = some_room _ _ _ _ _ _ c.loop-feeder.invariant.0 in
    let w = step _ _ _ _ (c.loop-feeder.top - 1) _ _ (omega arith) c.loop-feeder.invariant.0 in
    let s = shown _ _ _ _ _ _ _ _ c.in-Some.feeder _ w c.in-Some.ensures.1 c.copy_until.ensures in
    record { circle = s.circle; no_order = s.no_order; rest = λ i h. s.rest i h ∙ ap (λ s. get_or s i 0) c.loop-feeder.invariant.1 }

pub loop-feeder-smaller : goal.loop-feeder-smaller
loop-feeder-smaller c = let h = some_room _ _ _ _ _ _ c.loop-feeder.invariant.0 in omega arith

pub loop-feeder-preserved : goal.loop-feeder-preserved
loop-feeder-preserved c =
    let h = some_room _ _ _ _ _ _ c.loop-feeder.invariant.0 in
    let w = step _ _ _ _ (c.loop-feeder.top - 1) _ _ (omega arith) c.loop-feeder.invariant.0 in
    (onward _ _ _ _ _ _ _ w c.in-Some.ensures c.if-marks-feeder-eq-ON_PATH.false, c.loop-feeder.invariant.1)
