use Rattle.nm_tree.specs.Calls.{MayCall}
use Rattle.nm_tests.proofs.trees.blocks.blocks_are_used_again.Given as goal

abbrev pub invariant-loop-turn : goal.invariant-loop-turn
invariant-loop-turn g l = MayCall l.tree l.first
