use Rattle.nm_tree.specs.Calls.{MayCall}
use Rattle.nm_tests.proofs.trees.threads.rounds.Given as goal

abbrev pub invariant-loop-turn : goal.invariant-loop-turn
invariant-loop-turn l = MayCall l.fn.tree l.worker
