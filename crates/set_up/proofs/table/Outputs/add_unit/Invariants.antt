use Rattle.std.proofs.Common.{◌≡◌, ◌+◌, ◌++◌, List}
use Rattle.wiring.specs.declared.port.Port.{Port}
use Rattle.set_up.specs.Outputs.{ports_from}
use Rattle.set_up.specs.Listing.{Lists}
use Rattle.set_up.proofs.table.Outputs.add_unit.Given as goal

abbrev pub invariant-loop-port : goal.invariant-loop-port
invariant-loop-port g l = record {
  count : l.self.count ≡ l.initial.self.count + l.port;
  lists : (before : List Port) → Lists (g.R.Rig.model l.rig) before l.initial.self → Lists (g.R.Rig.model l.rig) (before ++ ports_from l.unit 0 l.port) l.self;
}
