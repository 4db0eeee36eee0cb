use Rattle.nm_tree.specs.Calls.{MayCall}
use Rattle.nm_tests.proofs.trees.stalled.pins.Given as goal

abbrev pub invariant-loop : goal.invariant-loop
invariant-loop l = MayCall l.fn.tree l.worker
