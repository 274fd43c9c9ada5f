-- What the numbers of the outputs mean, and when one feeds another.
use Rattle.std.proofs.Common.{List}
use Rattle.rig.specs.Units.{RigUnit}
use Rattle.wiring.specs.declared.table.Wiring.{Wiring}
use Rattle.set_up.specs.Outputs.{Means}
use Rattle.set_up.proofs.Feeds.{feeds_decides}
use Rattle.set_up.proofs.Numbered.{outputs_numbered}

pub means : {S : Type 0} (us : List (RigUnit S)) (w : Wiring) → Means us w
means us w = record { numbered = outputs_numbered us; feeding = feeds_decides us w }
