-- Reading the first line, judged by the rule for the file's first line: what it tells, and where the cursor stands then.
use Rattle.std.specs.Prelude.{◌≡◌, ℕ, List, length, Some, None, Ok, Err, Option, Result}
use Rattle.std.specs.Option.{ok_or}
use Rattle.std.specs.Borrow.{Bor}
use Rattle.std.specs.Fn.{Once, FnOnceReturnsAt}
use Rattle.lines.specs.declared.fault.LineFault.{LineFault}
use Rattle.lines.specs.declared.fault.LineFault.TheVariants.{FirstLine}
use Rattle.lines.specs.declared.fault.FileFault.{FileFault}
use Rattle.files.specs.Positions.{Position, ahead, front_of, passed, stopped}

-- whatever is wrong with the first line: its text, no line feed, or nothing at all
abbrev pub bad_first : ℕ → FileFault
bad_first l = record { line = l; fault = FirstLine }

-- past a first line that is as it should be, or at the end of the file
abbrev pub after_text : {T : Type 0} → Position → List ℕ → Option T → Position
after_text p text None = stopped p
after_text p text (Some x) = passed p (length text)

module _ {T : Type 0} (judge : List ℕ → Option T) where
  -- what is answered of what was found at the cursor
  abbrev pub heading_in : ℕ → Option (Result (List ℕ) LineFault) → Result T FileFault
  heading_in l None = Err (bad_first l)
  heading_in l (Some (Ok text)) = ok_or (judge text) (bad_first l)
  heading_in l (Some (Err e)) = Err (bad_first l)

  -- what is answered
  abbrev pub heading_at : Position → Result T FileFault
  heading_at p = heading_in p.line (front_of (ahead p))

  -- where the cursor stands after what was found there
  abbrev pub after_first : Position → Option (Result (List ℕ) LineFault) → Position
  after_first p None = stopped p
  after_first p (Some (Ok text)) = after_text p text (judge text)
  after_first p (Some (Err e)) = stopped p

  -- where the cursor stands then
  abbrev pub after_heading : Position → Position
  after_heading p = after_first p (front_of (ahead p))

-- what a call answered and where the cursor stands then, by what the function f told of the first line
module _ {F T : Type 0} (g : Once F (Bor (List ℕ) × Unit {0}) (Option T)) (f : F) (before : Position) where
  abbrev pub HeadedFor : Option (Result (List ℕ) LineFault) → Result T FileFault → Position → Type 0
  HeadedFor None answer after = (answer ≡ Err (bad_first before.line)) × (after ≡ stopped before)
  HeadedFor (Some (Ok text)) answer after = (r : Option T) × FnOnceReturnsAt g f text r × (answer ≡ ok_or r (bad_first before.line)) × (after ≡ after_text before text r)
  HeadedFor (Some (Err e)) answer after = (answer ≡ Err (bad_first before.line)) × (after ≡ stopped before)

  abbrev pub HeadedBy : Result T FileFault → Position → Type 0
  HeadedBy answer after = HeadedFor (front_of (ahead before)) answer after
