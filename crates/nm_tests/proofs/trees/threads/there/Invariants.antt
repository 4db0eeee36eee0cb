use Rattle.nm_tree.specs.Calls.{MayCall}
use Rattle.nm_tests.proofs.trees.threads.there.Given as goal

abbrev pub invariant-loop-number : goal.invariant-loop-number
invariant-loop-number l = MayCall l.fn.tree l.worker
