-- The grammar of a line, as it is written: each unit and each wire has one text, and a line is read exactly when it is such a text.
use Rattle.std.specs.Prelude.{◌≡◌, ℕ, ◌<◌, ◌≤◌, true, List, [], ◌∷◌, length, Some, None, Ok, codes, decimal, slice_index_or}
use Rattle.std.specs.Fmt.{signed_decimal}
use Rattle.fields.specs.Parts.{joined_by}
use Rattle.kinds.specs.declared.design.Design.{Design}
use Rattle.kinds.specs.declared.design.Design.TheVariants.{Integrator, Gain, Constant}
use Rattle.kinds.specs.Designs.{design_fault}
use Rattle.names.specs.Naming.{is_name}
use Rattle.file_rig.specs.Adding.{FoundAt}
use Rattle.numerals.specs.Numbers.{IsSignal}
use Rattle.lines.specs.UnitLines.{UnitSaid, unit_line}
use Rattle.lines.specs.WireLines.{Wire, wire_line}
use Rattle.lines.specs.Headers.{cap_of}

-- the fields of a unit's line
abbrev pub unit_fields : List ℕ → Design → List (List ℕ)
unit_fields name (Integrator x lo hi m) = codes "I" ∷ name ∷ signed_decimal x ∷ signed_decimal lo ∷ signed_decimal hi ∷ decimal m ∷ []
unit_fields name (Gain a b c) = codes "G" ∷ name ∷ signed_decimal a ∷ signed_decimal b ∷ signed_decimal c ∷ []
unit_fields name (Constant v) = codes "K" ∷ name ∷ signed_decimal v ∷ []

-- the fields joined by commas
abbrev pub unit_text : UnitSaid → List ℕ
unit_text u = joined_by 44 (unit_fields u.name u.design)

-- numbers of the signal range; the other numbers have narrower ranges of their own
abbrev pub Signals : Design → Type 0
Signals (Integrator x lo hi m) = IsSignal x × IsSignal lo × IsSignal hi
Signals (Gain a b c) = IsSignal c
Signals (Constant v) = IsSignal v

-- a unit that may come after units with these names
pub record ProperUnit (known : List (List ℕ)) (u : UnitSaid) : Type 0 where
  pub room : length known < 16
  pub name : is_name u.name ≡ true
  pub new : FoundAt known u.name None
  pub ranges : design_fault u.design ≡ None
  pub signals : Signals u.design

-- a line is read as a unit exactly where it is that unit's text
pub record UnitLineLaw (known : List (List ℕ)) (text : List ℕ) (u : UnitSaid) : Type 0 where
  pub only : unit_line known text ≡ Ok u → (unit_text u ≡ text) × ProperUnit known u
  pub every : unit_text u ≡ text → ProperUnit known u → unit_line known text ≡ Ok u

-- so each line of a units file after the first
abbrev pub UnitGrammar : Type 0
UnitGrammar = (known : List (List ℕ)) (text : List ℕ) (u : UnitSaid) → UnitLineLaw known text u

-- the name of a unit
abbrev pub name_of : List (List ℕ) → ℕ → List ℕ
name_of known u = slice_index_or known u []

-- the fields of a wire's line
abbrev pub wire_fields : List (List ℕ) → Wire → List (List ℕ)
wire_fields known w = codes "W" ∷ name_of known w.from.unit ∷ decimal w.from.port ∷ name_of known w.to.unit ∷ decimal w.to.port ∷ []

-- the fields joined by commas
abbrev pub wire_text : List (List ℕ) → Wire → List ℕ
wire_text known w = joined_by 44 (wire_fields known w)

-- an end of a wire: the lowest unit with its name, and a port
pub record ProperEnd (known : List (List ℕ)) (u port : ℕ) : Type 0 where
  pub name : is_name (name_of known u) ≡ true
  pub unit : FoundAt known (name_of known u) (Some u)
  pub within : port ≤ 7

-- a wire between units that are there
pub record ProperWire (known : List (List ℕ)) (w : Wire) : Type 0 where
  pub from : ProperEnd known w.from.unit w.from.port
  pub to : ProperEnd known w.to.unit w.to.port

-- a line is read as a wire exactly where it is that wire's text
pub record WireLineLaw (known : List (List ℕ)) (text : List ℕ) (w : Wire) : Type 0 where
  pub only : wire_line known text ≡ Ok w → (wire_text known w ≡ text) × ProperWire known w
  pub every : wire_text known w ≡ text → ProperWire known w → wire_line known text ≡ Ok w

-- so each line of a wires file after the first
abbrev pub WireGrammar : Type 0
WireGrammar = (known : List (List ℕ)) (text : List ℕ) (w : Wire) → WireLineLaw known text w

-- the first line of a units file with this cap
abbrev pub cap_fields : ℕ → List (List ℕ)
cap_fields n = codes "UNITS" ∷ codes "1" ∷ decimal n ∷ []

-- the fields joined by commas
abbrev pub cap_text : ℕ → List ℕ
cap_text n = joined_by 44 (cap_fields n)

-- a cap of 1 to 1,000,000
pub record ProperCap (n : ℕ) : Type 0 where
  pub some : 1 ≤ n
  pub most : n ≤ 1000000

-- a first line is read as a cap exactly where it is that cap's text
pub record CapLaw (text : List ℕ) (n : ℕ) : Type 0 where
  pub only : cap_of text ≡ Some n → (cap_text n ≡ text) × ProperCap n
  pub every : cap_text n ≡ text → ProperCap n → cap_of text ≡ Some n

-- so the first line of a units file
abbrev pub CapGrammar : Type 0
CapGrammar = (text : List ℕ) (n : ℕ) → CapLaw text n
