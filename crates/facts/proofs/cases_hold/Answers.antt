use mathlib.Core.Path.{refl}
use native.Mathlib.Omega.{arith}
use Rattle.kinds.proofs.Stops.{longest_step}
use Rattle.facts.specs.Worked.{WorkedCases}
use Rattle.facts.proofs.cases_hold.Goals as goal

cases : WorkedCases
cases = record {
  emptied = record { by_stop = λ hi l. refl; by_limit = λ hi l. refl };
  filled = record { bound = λ lo l. refl; next = λ lo l. refl };
  stuck = λ lo m l. omega arith;
  furthest = λ hi m h l. omega arith;
  held = refl;
  longest = longest_step;
}

pub returns : goal.returns
returns c = cases
