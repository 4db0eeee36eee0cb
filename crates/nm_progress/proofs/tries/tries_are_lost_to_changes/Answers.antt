use Rattle.nm_progress.proofs.CountedTries.{tries_are_lost_to_changes as proof_0}
use Rattle.nm_progress.proofs.tries.tries_are_lost_to_changes.Goals as goal

pub returns : goal.returns
returns c = proof_0
