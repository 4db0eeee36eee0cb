use Rattle.nm_progress.proofs.LostWalked.{short_scans_met_interference as proof}
use Rattle.nm_progress.proofs.walked.short_scans_met_interference.Goals as goal

pub returns : goal.returns
returns c = proof
