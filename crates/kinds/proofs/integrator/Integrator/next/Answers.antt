use Rattle.std.proofs.Common.{arith, w32, SFits, rules}
use Rattle.std.proofs.lemmas.Int.{ints, to_z-of_z}
use Rattle.kinds.proofs.integrator.Integrator.next.Goals as goal

pub returns-in_err-self : goal.returns-in_err-self
returns-in_err-self c = rw c.from_residual.ensures (λ t.
    let fx : SFits w32 c.args.self.x = search rules in
    let fu : SFits w32 c.args.self.u = search rules in
    let e = simp to_z-of_z at c.advance.ensures in
    c.in_err-self.ensures (record { above = omega (arith, ints, t.stops.above); below = omega (arith, ints, t.stops.below) }))
