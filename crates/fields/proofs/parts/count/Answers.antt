use Rattle.fields.proofs.Parting.{parts_law}
use Rattle.fields.proofs.parts.count.Goals as goal

pub returns-clause-law : goal.returns-clause-law
returns-clause-law c = parts_law c.args.sep c.args.text.now
