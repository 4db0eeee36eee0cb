use Rattle.nm_core.proofs.Worked.{helped_is_as_told, stale_is_as_told}
use Rattle.nm_core.proofs.worked_histories.Goals as goal

pub returns-clause-helped : goal.returns-clause-helped
returns-clause-helped c = helped_is_as_told

pub returns-clause-stale : goal.returns-clause-stale
returns-clause-stale c = stale_is_as_told
