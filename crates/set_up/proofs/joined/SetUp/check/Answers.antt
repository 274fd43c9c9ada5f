use Rattle.set_up.proofs.Means.{means}
use Rattle.set_up.proofs.joined.SetUp.check.Goals as goal

pub returns-clause-means : goal.returns-clause-means
returns-clause-means g c = means (g.R.Rig.model c.args.self.now.rig) c.args.self.now.wiring
