-- Refusals of a wire by their numbers. They are of layer 2; a is the unit of the wire's input, b its port.
use Rattle.wiring.specs.declared.fault.WireFault.{WireFault}
use Rattle.wiring.specs.declared.fault.WireFault.TheVariants.{OutOfRange, WiredTwice}
use Rattle.refusal.specs.declared.Code.{Code}

-- the numbers of a refusal
abbrev pub code_of : WireFault → Code
code_of (OutOfRange to) = record { number = 18; layer = 2; a = to.unit; b = to.port }
code_of (WiredTwice to) = record { number = 19; layer = 2; a = to.unit; b = to.port }
