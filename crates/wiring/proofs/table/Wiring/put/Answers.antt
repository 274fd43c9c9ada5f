use Rattle.std.proofs.Common.{refl}
use Rattle.wiring.proofs.Rows.{one_more}
use Rattle.wiring.proofs.table.Wiring.put.Goals as goal

pub returns : goal.returns
returns c = one_more c.args.self.now c.args.from c.args.to c.requires _ refl
