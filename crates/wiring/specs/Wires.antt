-- The wires of a wiring, and what adding one does.
use Rattle.std.specs.Prelude.{◌≡◌, ℕ, ◌≤◌, [], Some, None, Ok, Err, Option, Result, ◌≢◌, slice_index_or}
use Rattle.wiring.specs.declared.port.Port.{Port}
use Rattle.wiring.specs.declared.fault.WireFault.{WireFault}
use Rattle.wiring.specs.declared.fault.WireFault.TheVariants.{OutOfRange, WiredTwice}
use Rattle.wiring.specs.declared.table.Wiring.{Wiring}

-- the output that supplies input i of unit u, if any
abbrev pub source_of : Wiring → ℕ → ℕ → Option Port
source_of w u i = slice_index_or (slice_index_or w.rows u []) i None

-- both ends of a wire are within 16 units of 8 ports
pub record InRange (from to : Port) : Type 0 where
  pub from_unit : from.unit ≤ 15
  pub from_port : from.port ≤ 7
  pub to_unit : to.unit ≤ 15
  pub to_port : to.port ≤ 7

-- one wire more, and no other change
pub record OneMore (before : Wiring) (from to : Port) (after : Wiring) : Type 0 where
  pub wired : source_of after to.unit to.port ≡ Some from
  pub others : (u i : ℕ) → (u ≡ to.unit → i ≢ to.port) → source_of after u i ≡ source_of before u i

-- a wire was added, or refused, the range before an earlier wire
abbrev pub Added : Wiring → Port → Port → Result (Unit {0}) WireFault → Wiring → Type 0
Added before from to (Ok _) after = InRange from to × (source_of before to.unit to.port ≡ None) × OneMore before from to after
Added before from to (Err (OutOfRange p)) after = (InRange from to → ⊥) × (p ≡ to) × (after ≡ before)
Added before from to (Err (WiredTwice p)) after =
    InRange from to × ((q : Port) × (source_of before to.unit to.port ≡ Some q)) × (p ≡ to) × (after ≡ before)
