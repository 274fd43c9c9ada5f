use Rattle.std.proofs.Common.{arith, w32, SFits, rules}
use Rattle.std.proofs.lemmas.Int.{ints, to_z-of_z}
use Rattle.kinds.proofs.Exact.{sum_fits}
use Rattle.kinds.proofs.gain.Gain.sum.Goals as goal

pub overflow_add-result-2 : goal.overflow_add-result-2
overflow_add-result-2 c =
    let f : SFits w32 c.args.self.now.c = search rules in
    sum_fits c.times.result c.times-2.result c.args.self.now.c _ c.times.ensures.small c.times-2.ensures.small f (omega (arith, ints))

pub returns : goal.returns
returns c =
    let p = simp (to_z-of_z w32 c.args.u0 c.ranges.u0) at c.times.ensures.product in
    let q = simp (to_z-of_z w32 c.args.u1 c.ranges.u1) at c.times-2.ensures.product in
    omega (arith, ints)
