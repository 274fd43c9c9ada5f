use Rattle.std.proofs.Common.{◌≤◌}
use Rattle.example.proofs.advance.Given as goal

-- the step is at most the proposal
abbrev pub invariant-loop-h : goal.invariant-loop-h
invariant-loop-h g l = l.h ≤ 8

-- each turn tries a shorter step than the one before
abbrev pub decreases-loop-h : goal.decreases-loop-h
decreases-loop-h g l = l.h
