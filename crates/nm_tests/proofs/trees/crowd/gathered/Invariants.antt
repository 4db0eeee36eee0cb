use Rattle.nm_tree.specs.Closing.{AreAllOf}
use Rattle.nm_tests.proofs.trees.crowd.gathered.Given as goal

abbrev pub invariant-loop-each : goal.invariant-loop-each
invariant-loop-each l = AreAllOf l.tree l.workers.items
