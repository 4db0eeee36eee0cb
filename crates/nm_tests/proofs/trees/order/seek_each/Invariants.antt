use Rattle.nm_steps.specs.Steps.{IsOf}
use Rattle.nm_tests.proofs.trees.order.seek_each.Given as goal

abbrev pub invariant-loop-call : goal.invariant-loop-call
invariant-loop-call g l = IsOf l.fn.tree l.worker.pass
