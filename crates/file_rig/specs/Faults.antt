-- Faults of a design and of a table, as those of adding a unit.
use Rattle.kinds.specs.declared.design.DesignFault.{DesignFault}
use Rattle.unit_rig.specs.declared.list.PushFault.{PushFault}
use Rattle.unit_rig.specs.declared.list.PushFault.TheVariants as push
use Rattle.file_rig.specs.declared.table.fault.AddFault.{AddFault}
use Rattle.file_rig.specs.declared.table.fault.AddFault.TheVariants.{TableFull, BadDesign, NoMemory}

abbrev pub of_design : DesignFault → AddFault
of_design e = BadDesign e

abbrev pub of_push : PushFault → AddFault
of_push push.Full = TableFull
of_push push.NoMemory = NoMemory
