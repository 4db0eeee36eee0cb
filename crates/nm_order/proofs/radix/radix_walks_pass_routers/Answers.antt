use Rattle.nm_order.proofs.RadixLaws.{walks_pass_routers}
use Rattle.nm_order.proofs.StaleRuns.{any_walk_passes_routers}
use Rattle.nm_order.proofs.radix.radix_walks_pass_routers.Goals as goal

pub returns-clause-walks : goal.returns-clause-walks
returns-clause-walks c = any_walk_passes_routers

pub returns-clause-logs : goal.returns-clause-logs
returns-clause-logs c = walks_pass_routers
