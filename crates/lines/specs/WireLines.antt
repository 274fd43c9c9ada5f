-- What a line of a wires file says, where units have these names.
use Rattle.std.specs.Prelude.{◌≡◌, ℕ, ◌+◌, cond, List, [], ◌∷◌, ℤ, pos, Some, Ok, Err, Result, ◌==◌, unsigned_abs}
use Rattle.wiring.specs.declared.port.Port.{Port}
use Rattle.lines.specs.declared.fault.LineFault.{LineFault}
use Rattle.lines.specs.declared.fault.LineFault.TheVariants.{Letter}
use Rattle.lines.specs.declared.wire.End.{End}
use Rattle.lines.specs.declared.wire.WireLine.{WireLine}
use Rattle.lines.specs.declared.wire.WireLine.TheVariants as lines
use Rattle.lines.specs.Known.{unit_named}
use Rattle.lines.specs.Fields.{field, if_count, if_known, if_within}

-- a wire from an output to an input, by numbers
pub record Wire : Type 0 where
  pub from : Port
  pub to : Port

-- a wire by what was read of its ends
abbrev pub wire_between : ℕ → ℤ → ℕ → ℤ → Wire
wire_between u o v i = record { from = record { unit = u; port = unsigned_abs o }; to = record { unit = v; port = unsigned_abs i } }

-- a unit's name in field k and a port in the next, and what comes of them
abbrev pub if_end : List (List ℕ) → ℕ → List ℕ → (ℕ → ℤ → Result Wire LineFault) → Result Wire LineFault
if_end known k line next = if_known known k line (λ u. if_within (pos 0) (pos 7) (k + 1) line (next u))

-- W,from,output,to,input
abbrev pub wire_at : List (List ℕ) → List ℕ → Result Wire LineFault
wire_at known line = if_count 5 line (if_end known 2 line (λ u o. if_end known 4 line (λ v i. Ok (wire_between u o v i))))

-- the letter, W (87)
abbrev pub wire_by_letter : List (List ℕ) → List ℕ → List ℕ → Result Wire LineFault
wire_by_letter known line [] = Err Letter
wire_by_letter known line (b ∷ []) = cond (b == 87) (wire_at known line) (Err Letter)
wire_by_letter known line (b ∷ d ∷ ds) = Err Letter

-- a line of a wires file
abbrev pub wire_line : List (List ℕ) → List ℕ → Result Wire LineFault
wire_line known line = wire_by_letter known line (field 1 line)

-- a line that was given out, its names read: the ends of a wire by unit name and port
pub record NamedPort : Type 0 where
  pub name : List ℕ
  pub port : ℕ

-- an end, its name read
abbrev pub end_said : End → NamedPort
end_said e = record { name = e.name.now; port = e.port }

abbrev pub source_said : WireLine → NamedPort
source_said (lines.Wire f t) = end_said f

abbrev pub target_said : WireLine → NamedPort
target_said (lines.Wire f t) = end_said t

-- an end that was read in fields k and k + 1, or the fault for which no end is
abbrev pub EndRead : List (List ℕ) → ℕ → List ℕ → Result End LineFault → Type 0
EndRead known k line (Ok e) =
    (u : ℕ) × (z : ℤ) × (unit_named known e.name.now ≡ Some u) × (e.port ≡ unsigned_abs z) × ((next : ℕ → ℤ → Result Wire LineFault) → if_end known k line next ≡ next u z)
EndRead known k line (Err f) = (next : ℕ → ℤ → Result Wire LineFault) → if_end known k line next ≡ Err f

-- it names the units of a wire
pub record IsEnd (known : List (List ℕ)) (said : NamedPort) (p : Port) : Type 0 where
  pub unit : unit_named known said.name ≡ Some p.unit
  pub port : said.port ≡ p.port

-- a line whose ends name those of a wire
pub record Names (known : List (List ℕ)) (line : WireLine) (w : Wire) : Type 0 where
  pub from : IsEnd known (source_said line) w.from
  pub to : IsEnd known (target_said line) w.to

-- what was read of a line names the wire that the line says, or is refused as it is
abbrev pub WireRead : List (List ℕ) → Result WireLine LineFault → Result Wire LineFault → Type 0
WireRead known (Ok line) (Ok w) = Names known line w
WireRead known (Ok line) (Err e) = ⊥
WireRead known (Err e) (Ok w) = ⊥
WireRead known (Err e) (Err f) = e ≡ f
