-- What a line of a units file says.
use Rattle.std.specs.Prelude.{ℕ, cond, ◌&&◌, List, [], ◌∷◌, pos, negsuc, Some, None, Ok, Err, Option, Result, ◌==◌, int_le, unsigned_abs}
use Rattle.kinds.specs.declared.kind.Kind.{Kind}
use Rattle.kinds.specs.declared.kind.Kind.TheVariants as kinds
use Rattle.kinds.specs.declared.design.Design.{Design}
use Rattle.kinds.specs.declared.design.Design.TheVariants as designs
use Rattle.lines.specs.declared.fault.LineFault.{LineFault}
use Rattle.lines.specs.declared.fault.LineFault.TheVariants.{Letter, Disagree}
use Rattle.lines.specs.declared.unit.UnitLine.{UnitLine}
use Rattle.lines.specs.declared.unit.UnitLine.TheVariants as lines
use Rattle.lines.specs.Fields.{field, if_count, if_room, if_new, if_number, if_within}

-- a unit as a line describes it
pub record UnitSaid : Type 0 where
  pub name : List ℕ
  pub design : Design

-- the letter of a line, its first field: I (73), G (71) or K (75)
abbrev pub kind_of_byte : ℕ → Option Kind
kind_of_byte b = cond (b == 73) (Some kinds.Integrator) (cond (b == 71) (Some kinds.Gain) (cond (b == 75) (Some kinds.Constant) None))

-- a letter is a field of one byte
abbrev pub kind_of_letter : List ℕ → Option Kind
kind_of_letter [] = None
kind_of_letter (b ∷ []) = kind_of_byte b
kind_of_letter (b ∷ d ∷ ds) = None

-- how many fields a line has: I,name,x,lo,hi,m and G,name,a,b,c and K,name,v
abbrev pub fields_of : Kind → ℕ
fields_of kinds.Integrator = 6
fields_of kinds.Gain = 5
fields_of kinds.Constant = 3

-- x, lo, hi and m, and x within lo to hi
abbrev pub integrator_at : List ℕ → Result Design LineFault
integrator_at line = if_number 3 line (λ x. if_number 4 line (λ lo. if_number 5 line (λ hi. if_within (pos 1) (pos 1000000) 6 line (λ m.
    cond (int_le lo x && int_le x hi) (Ok (designs.Integrator x lo hi (unsigned_abs m))) (Err Disagree)))))

-- a, b and c
abbrev pub gain_at : List ℕ → Result Design LineFault
gain_at line = if_within (negsuc 999) (pos 1000) 3 line (λ a. if_within (negsuc 999) (pos 1000) 4 line (λ b. if_number 5 line (λ c. Ok (designs.Gain a b c))))

-- v
abbrev pub constant_at : List ℕ → Result Design LineFault
constant_at line = if_number 3 line (λ v. Ok (designs.Constant v))

-- the fields after the name
abbrev pub design_at : Kind → List ℕ → Result Design LineFault
design_at kinds.Integrator line = integrator_at line
design_at kinds.Gain line = gain_at line
design_at kinds.Constant line = constant_at line

-- a design under a name
abbrev pub with_name : List ℕ → Result Design LineFault → Result UnitSaid LineFault
with_name n (Ok d) = Ok (record { name = n; design = d })
with_name n (Err e) = Err e

-- a line whose letter is of this kind, or of none
abbrev pub unit_of_kind : List (List ℕ) → List ℕ → Option Kind → Result UnitSaid LineFault
unit_of_kind known line None = Err Letter
unit_of_kind known line (Some k) = if_count (fields_of k) line (if_room known (if_new known 2 line (with_name (field 2 line) (design_at k line))))

-- a line of a units file, where the units before it have these names
abbrev pub unit_line : List (List ℕ) → List ℕ → Result UnitSaid LineFault
unit_line known line = unit_of_kind known line (kind_of_letter (field 1 line))

-- a line that was given out, its name read
abbrev pub unit_said : UnitLine → UnitSaid
unit_said (lines.Integrator n x lo hi m) = record { name = n.now; design = designs.Integrator x lo hi m }
unit_said (lines.Gain n a b c) = record { name = n.now; design = designs.Gain a b c }
unit_said (lines.Constant n v) = record { name = n.now; design = designs.Constant v }

-- what was read of a line, its name read
abbrev pub unit_read : Result UnitLine LineFault → Result UnitSaid LineFault
unit_read (Ok u) = Ok (unit_said u)
unit_read (Err e) = Err e
