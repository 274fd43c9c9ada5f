-- Reading one line, judged by the rule for lines of the file: what is answered, and where the cursor stands then.
use Rattle.std.specs.Prelude.{◌≡◌, ℕ, List, length, Some, None, Ok, Err, Option, Result}
use Rattle.std.specs.Borrow.{Bor}
use Rattle.std.specs.Fn.{Once, FnOnceReturnsAt}
use Rattle.lines.specs.declared.fault.LineFault.{LineFault}
use Rattle.lines.specs.declared.fault.FileFault.{FileFault}
use Rattle.lines.specs.declared.unit.UnitLine.{UnitLine}
use Rattle.lines.specs.declared.wire.WireLine.{WireLine}
use Rattle.lines.specs.UnitLines.{UnitSaid, unit_said}
use Rattle.lines.specs.WireLines.{Wire, Names}
use Rattle.files.specs.Positions.{Position, ahead, front_of, passed, stopped}

-- a fault with its line
abbrev pub on_line : {T : Type 0} → ℕ → Result T LineFault → Result T FileFault
on_line l (Ok x) = Ok x
on_line l (Err e) = Err (record { line = l; fault = e })

-- past a line that was read, or at the end of the file
abbrev pub after_line : {T : Type 0} → Position → List ℕ → Result T LineFault → Position
after_line p text (Ok x) = passed p (length text)
after_line p text (Err e) = stopped p

module _ {T : Type 0} (judge : List ℕ → Result T LineFault) where
  -- what is answered of what was found at the cursor
  abbrev pub answer_to : ℕ → Option (Result (List ℕ) LineFault) → Option (Result T FileFault)
  answer_to l None = None
  answer_to l (Some (Ok text)) = Some (on_line l (judge text))
  answer_to l (Some (Err e)) = Some (Err (record { line = l; fault = e }))

  -- what is answered
  abbrev pub answer_at : Position → Option (Result T FileFault)
  answer_at p = answer_to p.line (front_of (ahead p))

  -- where the cursor stands after what was found there
  abbrev pub after_front : Position → Option (Result (List ℕ) LineFault) → Position
  after_front p None = p
  after_front p (Some (Ok text)) = after_line p text (judge text)
  after_front p (Some (Err e)) = stopped p

  -- where the cursor stands then: past the line, or at the end of the file where the line cannot be read
  abbrev pub after_at : Position → Position
  after_at p = after_front p (front_of (ahead p))

-- what a call gave out and where the cursor stands then, by what the function f read of the line at the cursor
module _ {F T : Type 0} (g : Once F (Bor (List ℕ) × Unit {0}) (Result T LineFault)) (f : F) (before : Position) where
  abbrev pub GivenFor : Option (Result (List ℕ) LineFault) → Option (Result T FileFault) → Position → Type 0
  GivenFor None answer after = (answer ≡ None) × (after ≡ before)
  GivenFor (Some (Ok text)) answer after =
      (r : Result T LineFault) × FnOnceReturnsAt g f text r × (answer ≡ Some (on_line before.line r)) × (after ≡ after_line before text r)
  GivenFor (Some (Err e)) answer after = (answer ≡ Some (Err (record { line = before.line; fault = e }))) × (after ≡ stopped before)

  abbrev pub GivenBy : Option (Result T FileFault) → Position → Type 0
  GivenBy answer after = GivenFor (front_of (ahead before)) answer after

-- what a call gave out, the names read
abbrev pub unit_given : Option (Result UnitLine FileFault) → Option (Result UnitSaid FileFault)
unit_given None = None
unit_given (Some (Ok u)) = Some (Ok (unit_said u))
unit_given (Some (Err e)) = Some (Err e)

-- what a call gave out names the wire that the line says, or is refused as it is
abbrev pub WireGiven : List (List ℕ) → Option (Result WireLine FileFault) → Option (Result Wire FileFault) → Type 0
WireGiven known None None = Unit {0}
WireGiven known None (Some s) = ⊥
WireGiven known (Some r) None = ⊥
WireGiven known (Some (Ok line)) (Some (Ok w)) = Names known line w
WireGiven known (Some (Ok line)) (Some (Err e)) = ⊥
WireGiven known (Some (Err e)) (Some (Ok w)) = ⊥
WireGiven known (Some (Err e)) (Some (Err f)) = e ≡ f
