-- The table of a rig's outputs.
use Rattle.std.specs.Prelude.{◌≡◌, ℕ, ◌+◌, ◌<◌, Bool, false, cond, ◌&&◌, List, length, nat_lt, slice_index_or, slice_set}
use Rattle.rig.specs.Units.{RigUnit}
use Rattle.wiring.specs.declared.port.Port.{Port}
use Rattle.wiring.specs.declared.table.Wiring.{Wiring}
use Rattle.set_up.specs.declared.table.Output.{Output}
use Rattle.set_up.specs.declared.table.Outputs.{Outputs}
use Rattle.set_up.specs.Outputs.{mask_at, reads, no_port}

abbrev pub no_output : Output
no_output = record { port = no_port; mask = 0 }

-- the table's output with this number
abbrev pub entry : Outputs → ℕ → Output
entry t n = slice_index_or t.list n no_output

-- whether an output of a table feeds another, by their numbers
abbrev pub feeds_in : Wiring → Outputs → ℕ → ℕ → Bool
feeds_in w t a b = cond (nat_lt a t.count && nat_lt b t.count) (reads w (entry t a).port (entry t b).port.unit (entry t b).mask) false

-- the table has these outputs by their numbers, with their masks
pub record Lists {S : Type 0} (us : List (RigUnit S)) (ports : List Port) (t : Outputs) : Type 0 where
  pub count : t.count ≡ length ports
  pub each_port : (n : ℕ) → n < length ports → (entry t n).port ≡ slice_index_or ports n no_port
  pub each_mask : (n : ℕ) → n < length ports → (entry t n).mask ≡ mask_at us (slice_index_or ports n no_port)

-- one output more
abbrev pub OneMore : Outputs → Output → Outputs → Type 0
OneMore before output after = (after.count ≡ before.count + 1) × (after.list ≡ slice_set before.list before.count output)
