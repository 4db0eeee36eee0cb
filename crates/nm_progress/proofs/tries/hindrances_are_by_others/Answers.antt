use Rattle.nm_progress.proofs.CountedTries.{hindrances_are_by_others as proof}
use Rattle.nm_progress.proofs.tries.hindrances_are_by_others.Goals as goal

pub returns : goal.returns
returns c = proof
