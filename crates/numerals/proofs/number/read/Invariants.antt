use Rattle.std.proofs.Common.{◌≡◌, ◌≤◌, drop}
use Rattle.numerals.specs.Numbers.{read_in}
use Rattle.numerals.proofs.number.read.Given as goal

abbrev pub invariant-loop-b : goal.invariant-loop-b
invariant-loop-b l = (l.n ≤ l.most) × (read_in l.most l.n (drop l.b-index l.digits) ≡ read_in l.most 0 l.digits)
