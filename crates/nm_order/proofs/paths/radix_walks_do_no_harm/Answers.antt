use Rattle.nm_order.proofs.StaleRuns.{any_walk_was_in_tree, any_walk_in_range, any_walk_out_of_range}
use Rattle.nm_order.proofs.WalkTells.{any_walk_ends_elsewhere}
use Rattle.nm_order.proofs.paths.radix_walks_do_no_harm.Goals as goal

pub returns-clause-reached : goal.returns-clause-reached
returns-clause-reached c = any_walk_was_in_tree

pub returns-clause-in_range : goal.returns-clause-in_range
returns-clause-in_range c = any_walk_in_range

pub returns-clause-out_of_range : goal.returns-clause-out_of_range
returns-clause-out_of_range c = any_walk_out_of_range

pub returns-clause-ends : goal.returns-clause-ends
returns-clause-ends c = any_walk_ends_elsewhere
