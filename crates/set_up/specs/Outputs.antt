-- The inputs and outputs of a rig's units, numbered from 0 by unit, then port, and which output feeds which.
use Rattle.std.specs.Prelude.{◌≡◌, ℕ, zero, suc, ◌+◌, ◌<◌, ◌≤◌, Bool, false, cond, ◌&&◌, ◌||◌, List, [], ◌∷◌, ◌++◌, length, Some, None, Option, nat_eq, nat_lt, slice_index, slice_index_or, Decides}
use Rattle.std.specs.List.{slice_get}
use Rattle.rig.specs.declared.shape.Ports.{Ports}
use Rattle.rig.specs.Units.{RigUnit}
use Rattle.rig.specs.Laws.{bit}
use Rattle.rig.specs.Calls.{ports_of}
use Rattle.wiring.specs.declared.port.Port.{Port}
use Rattle.wiring.specs.declared.table.Wiring.{Wiring}
use Rattle.wiring.specs.Wires.{source_of}

-- so many ports of unit u, from port p on
abbrev pub ports_from : ℕ → ℕ → ℕ → List Port
ports_from u p zero = []
ports_from u p (suc n) = record { unit = u; port = p } ∷ ports_from u (p + 1) n

-- the ports of the units from u on, by unit, then port, where each unit tells how many it has
abbrev pub ports_by : {S : Type 0} → (RigUnit S → ℕ) → ℕ → List (RigUnit S) → List Port
ports_by count u [] = []
ports_by count u (x ∷ us) = ports_from u 0 (count x) ++ ports_by count (u + 1) us

abbrev pub input_count : {S : Type 0} → RigUnit S → ℕ
input_count x = x.rules.inputs

abbrev pub output_count : {S : Type 0} → RigUnit S → ℕ
output_count x = length x.rules.masks

-- all inputs, and all outputs, by their numbers
abbrev pub inputs_of : {S : Type 0} → List (RigUnit S) → List Port
inputs_of us = ports_by input_count 0 us

abbrev pub outputs_of : {S : Type 0} → List (RigUnit S) → List Port
outputs_of us = ports_by output_count 0 us

-- how many inputs and outputs unit u has: none where there is no such unit
abbrev pub ports_in : {S : Type 0} → Option (RigUnit S) → Ports
ports_in None = record { inputs = 0; outputs = 0 }
ports_in (Some x) = ports_of x

abbrev pub ports_at : {S : Type 0} → List (RigUnit S) → ℕ → Ports
ports_at us u = ports_in (slice_get us u)

-- the mask of an output: no input where there is no such output
abbrev pub mask_in : {S : Type 0} → Option (RigUnit S) → ℕ → ℕ
mask_in None p = 0
mask_in (Some x) p = slice_index x.rules.masks p

abbrev pub mask_at : {S : Type 0} → List (RigUnit S) → Port → ℕ
mask_at us output = mask_in (slice_get us output.unit) output.port

-- the rig has an input, and an output
abbrev pub HasInput : {S : Type 0} → List (RigUnit S) → Port → Type 0
HasInput us input = input.port < (ports_at us input.unit).inputs

abbrev pub HasOutput : {S : Type 0} → List (RigUnit S) → Port → Type 0
HasOutput us output = output.port < (ports_at us output.unit).outputs

abbrev pub no_port : Port
no_port = record { unit = 0; port = 0 }

-- q comes before p, by unit, then port
pub record Before (q p : Port) : Type 0 where
  pub unit : q.unit ≤ p.unit
  pub port : q.unit ≡ p.unit → q.port < p.port

-- a list has the ports of which P holds and no other, each once, by unit, then port
pub record Numbers (P : Port → Type 0) (ports : List Port) : Type 0 where
  pub each : (n : ℕ) → n < length ports → P (slice_index_or ports n no_port)
  pub all : (p : Port) → P p → (n : ℕ) × (n < length ports) × (slice_index_or ports n no_port ≡ p)
  pub in_order : (m n : ℕ) → m < n → n < length ports → Before (slice_index_or ports m no_port) (slice_index_or ports n no_port)

-- output a supplies an input
abbrev pub Supplies : Wiring → Port → Port → Type 0
Supplies w a to = source_of w to.unit to.port ≡ Some a

-- a supplies input i of unit u, and i is in a mask
pub record ReadsAt (w : Wiring) (a : Port) (u mask i : ℕ) : Type 0 where
  pub supplied : Supplies w a (record { unit = u; port = i })
  pub masked : bit mask i ≡ 1

-- output a feeds output b: a supplies an input in b's mask
abbrev pub Feeds : {S : Type 0} → List (RigUnit S) → Wiring → Port → Port → Type 0
Feeds us w a b = (i : ℕ) × ReadsAt w a b.unit (mask_at us b) i

-- the same as tests, for the search
abbrev pub is_source : Port → Option Port → Bool
is_source a None = false
is_source a (Some p) = nat_eq p.unit a.unit && nat_eq p.port a.port

abbrev pub reads_at : Wiring → Port → ℕ → ℕ → ℕ → Bool
reads_at w a u mask i = nat_eq (bit mask i) 1 && is_source a (source_of w u i)

-- whether a supplies one of the first n inputs of unit u that are in a mask
unfoldable pub reads_below : Wiring → Port → ℕ → ℕ → ℕ → Bool
reads_below w a u mask zero = false
reads_below w a u mask (suc n) = reads_at w a u mask n || reads_below w a u mask n

-- whether the output at unit u with this mask reads a
abbrev pub reads : Wiring → Port → ℕ → ℕ → Bool
reads w a u mask = reads_below w a u mask 8

-- the output with this number
abbrev pub output_at : {S : Type 0} → List (RigUnit S) → ℕ → Port
output_at us n = slice_index_or (outputs_of us) n no_port

-- whether an output feeds another, by their numbers; a number of no output feeds none
abbrev pub feeds : {S : Type 0} → List (RigUnit S) → Wiring → ℕ → ℕ → Bool
feeds us w a b = cond (nat_lt a (length (outputs_of us)) && nat_lt b (length (outputs_of us)))
    (reads w (output_at us a) (output_at us b).unit (mask_at us (output_at us b))) false

-- what the numbers of the outputs mean, and when one feeds another
pub record Means {S : Type 0} (us : List (RigUnit S)) (w : Wiring) : Type 0 where
  pub numbered : Numbers (HasOutput us) (outputs_of us)
  pub feeding : (a b : ℕ) → a < length (outputs_of us) → b < length (outputs_of us) → Decides (feeds us w a b) (Feeds us w (output_at us a) (output_at us b))
