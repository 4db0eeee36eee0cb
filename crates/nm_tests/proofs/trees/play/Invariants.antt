use Rattle.nm_steps.specs.Steps.{IsOf}
use Rattle.nm_tests.proofs.trees.play.Given as goal

abbrev pub invariant-loop-number : goal.invariant-loop-number
invariant-loop-number g l = record { first : IsOf l.fn.tree l.first.pass; second : IsOf l.fn.tree l.second.pass }
