use Rattle.nm_progress.proofs.LostWalked.{busy_near_met_interference as proof}
use Rattle.nm_progress.proofs.walked.busy_near_met_interference.Goals as goal

pub returns : goal.returns
returns c = proof
