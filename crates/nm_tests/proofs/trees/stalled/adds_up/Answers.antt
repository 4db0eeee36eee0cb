use Rattle.nm_tree.proofs.Opening.{new_are_ready}
use Rattle.nm_tests.proofs.trees.stalled.adds_up.Goals as goal

pub play_each-requires-after_bounds : goal.play_each-requires-after_bounds
play_each-requires-after_bounds g c κs within = new_are_ready c.in_ok-tree.tree 0 c.in_ok-tree.workers.items
    c.in_ok-tree.ensures.new.new
