use Rattle.nm_progress.proofs.AloneRemovals.{finishes_alone_are_answered as proof}
use Rattle.nm_progress.proofs.alone.finishes_alone_are_answered.Goals as goal

pub returns : goal.returns
returns c = proof
