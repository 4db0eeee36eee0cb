use Rattle.nm_order.proofs.RadixLaws.{each_path_is_short, walks_are_short}
use Rattle.nm_order.proofs.StaleRuns.{any_walk_is_short}
use Rattle.nm_order.proofs.radix.radix_walks_are_short.Goals as goal

pub returns-clause-paths : goal.returns-clause-paths
returns-clause-paths c = each_path_is_short

pub returns-clause-walks : goal.returns-clause-walks
returns-clause-walks c = any_walk_is_short

pub returns-clause-logs : goal.returns-clause-logs
returns-clause-logs c = walks_are_short
