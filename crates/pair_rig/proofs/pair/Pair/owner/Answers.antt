use Rattle.std.proofs.Common.{rules}
use Rattle.pair_rig.specs.Joining.{neither_at}
use Rattle.pair_rig.proofs.pair.Pair.owner.Goals as goal

pub returns-then-unit-ge16 : goal.returns-then-unit-ge16
returns-then-unit-ge16 g c = search (rules, neither_at)
