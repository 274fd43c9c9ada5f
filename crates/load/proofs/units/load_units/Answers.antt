use Rattle.fields.proofs.Parting.{parts_law}
use Rattle.load.proofs.units.load_units.Goals as goal

pub returns-then-is_err-clause-lines : goal.returns-then-is_err-clause-lines
returns-then-is_err-clause-lines c = parts_law 10 c.args.bytes.now

pub returns-else-is_err-clause-lines : goal.returns-else-is_err-clause-lines
returns-else-is_err-clause-lines c = parts_law 10 c.args.bytes.now
