-- A file rig obeys the laws of a rig.
use Rattle.rig.specs.Laws.{Sound}
use Rattle.kinds.specs.Soundness.{sound_kind, suits_own}
use Rattle.unit_rig.specs.Rigs.{sound_units}
use Rattle.file_rig.specs.declared.table.FileRig.{FileRig}
use Rattle.file_rig.specs.Table.{units_of}

pub sound_table : (t : FileRig) → Sound (units_of t)
sound_table t = sound_units sound_kind suits_own t.table
