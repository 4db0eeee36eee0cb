use Rattle.nm_order.proofs.StaleRuns.{any_walk_was_reached, any_walk_stays, any_walk_reads}
use Rattle.nm_order.proofs.paths.stale_paths_do_no_harm.Goals as goal

pub returns-clause-reached : goal.returns-clause-reached
returns-clause-reached c = any_walk_was_reached

pub returns-clause-intervals : goal.returns-clause-intervals
returns-clause-intervals c = any_walk_stays

pub returns-clause-keys : goal.returns-clause-keys
returns-clause-keys c = any_walk_reads
