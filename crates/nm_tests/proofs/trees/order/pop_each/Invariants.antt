use Rattle.nm_steps.specs.Steps.{IsOf}
use Rattle.nm_tests.proofs.trees.order.pop_each.Given as goal

abbrev pub invariant-loop-taken : goal.invariant-loop-taken
invariant-loop-taken g l = IsOf l.fn.tree l.worker.pass
