use Rattle.std.proofs.Common.{refl}
use Rattle.facts.proofs.reading_holds.Goals as goal

pub returns : goal.returns
returns c = record { used = refl; nobody = refl; late = refl; small = refl; other = refl; file = refl; rest = refl; twice = refl }
