use Rattle.nm_progress.proofs.LostLookups.{busy_lookups_met_interference as proof}
use Rattle.nm_progress.proofs.lookups.busy_lookups_met_interference.Goals as goal

pub returns : goal.returns
returns c = proof
