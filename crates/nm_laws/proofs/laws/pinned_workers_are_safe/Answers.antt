use Rattle.nm_laws.proofs.EachState.{each_knower_pinned, each_reach_shared, each_reach_guarded}
use Rattle.nm_laws.proofs.laws.pinned_workers_are_safe.Goals as goal

pub returns-clause-pinned : goal.returns-clause-pinned
returns-clause-pinned c = each_knower_pinned

pub returns-clause-shared : goal.returns-clause-shared
returns-clause-shared c = each_reach_shared

pub returns-clause-guarded : goal.returns-clause-guarded
returns-clause-guarded c = each_reach_guarded
