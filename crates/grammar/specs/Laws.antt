-- A file is read exactly when it is the one text of what it says.
use Rattle.std.specs.Prelude.{◌≡◌, ℕ, List, [], ◌∷◌, ◌++◌, map, None, Ok, codes}
use Rattle.lines.specs.UnitLines.{UnitSaid}
use Rattle.lines.specs.WireLines.{Wire}
use Rattle.grammar.specs.Texts.{unit_text, ProperUnit, wire_text, ProperWire, cap_text, ProperCap}
use Rattle.grammar.specs.Files.{names_said, units_file, supplier, wires_file}

-- lines, each ended by a line feed
abbrev pub lines_text : List (List ℕ) → List ℕ
lines_text [] = []
lines_text (t ∷ ts) = t ++ (10 ∷ lines_text ts)

-- each of these is proper after those before it; `before` are the ones before them all
abbrev pub InTurn : {T : Type 0} → (List T → T → Type 0) → List T → List T → Type 0
InTurn P before [] = Unit {0}
InTurn P before (x ∷ xs) = P before x × InTurn P (before ++ x ∷ []) xs

-- the text of a cap and units
abbrev pub units_text : ℕ → List UnitSaid → List ℕ
units_text n us = lines_text (cap_text n ∷ map unit_text us)

-- names of 1 to 8 letters and digits, no two the same, at most 16 units, numbers in their ranges, x within lo to hi
abbrev pub ProperUnits : List UnitSaid → Type 0
ProperUnits us = InTurn (λ before u. ProperUnit (names_said before) u) [] us

-- read as these: then it is their text, and they are proper; and the other way round
pub record UnitsLaw (bytes : List ℕ) (n : ℕ) (us : List UnitSaid) : Type 0 where
  pub only : units_file bytes ≡ Ok (record { most = n; units = us }) → (units_text n us ≡ bytes) × ProperCap n × ProperUnits us
  pub every : units_text n us ≡ bytes → ProperCap n → ProperUnits us → units_file bytes ≡ Ok (record { most = n; units = us })

-- a units file is read as a cap and units exactly where it is their text
abbrev pub UnitsGrammar : List ℕ → Type 0
UnitsGrammar bytes = (n : ℕ) (us : List UnitSaid) → UnitsLaw bytes n us

-- the text of wires
abbrev pub wires_text : List (List ℕ) → List Wire → List ℕ
wires_text known ws = lines_text (codes "WIRES,1" ∷ map (wire_text known) ws)

-- ends that are there, and no two wires to the same input
abbrev pub ProperWires : List (List ℕ) → List Wire → Type 0
ProperWires known ws = InTurn (λ before w. ProperWire known w × (supplier before w.to ≡ None)) [] ws

-- read as these: then it is their text, and they are proper; and the other way round
pub record WiresLaw (known : List (List ℕ)) (bytes : List ℕ) (ws : List Wire) : Type 0 where
  pub only : wires_file known bytes ≡ Ok ws → (wires_text known ws ≡ bytes) × ProperWires known ws
  pub every : wires_text known ws ≡ bytes → ProperWires known ws → wires_file known bytes ≡ Ok ws

-- a wires file is read as wires between units with these names exactly where it is their text
abbrev pub WiresGrammar : List (List ℕ) → List ℕ → Type 0
WiresGrammar known bytes = (ws : List Wire) → WiresLaw known bytes ws
