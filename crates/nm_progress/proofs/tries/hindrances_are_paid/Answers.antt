use Rattle.nm_progress.proofs.CountedTries.{hindrances_are_paid as proof}
use Rattle.nm_progress.proofs.tries.hindrances_are_paid.Goals as goal

pub returns : goal.returns
returns c = proof
