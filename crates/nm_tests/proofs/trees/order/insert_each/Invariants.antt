use Rattle.nm_steps.specs.Steps.{IsOf}
use Rattle.nm_tests.proofs.trees.order.insert_each.Given as goal

abbrev pub invariant-loop-number : goal.invariant-loop-number
invariant-loop-number g l = IsOf l.fn.tree l.worker.pass
