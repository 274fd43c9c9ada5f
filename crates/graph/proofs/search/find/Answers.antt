use Rattle.std.proofs.Common.{refl}
use Rattle.graph.proofs.Copies.{ordered}
use Rattle.graph.proofs.search.find.Goals as goal

pub returns-in-None : goal.returns-in-None
returns-in-None c = (ordered _ _ _ refl c.in-None.ensures, refl)
