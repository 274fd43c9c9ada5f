-- Refusals of a units file by their numbers.
use Rattle.std.specs.Prelude.{Some, None, Option}
use Rattle.refusal.specs.declared.Code.{Code}
use Rattle.lines.specs.Codes.{code_of as line_code}
use Rattle.load.specs.declared.fault.LoadFault.{LoadFault}
use Rattle.load.specs.declared.fault.LoadFault.TheVariants.{Refused, NoMemory}

-- a line's, or none for want of memory
abbrev pub code_of : LoadFault → Option Code
code_of (Refused f) = Some (line_code f)
code_of NoMemory = None
