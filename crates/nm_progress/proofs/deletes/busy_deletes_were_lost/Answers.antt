use Rattle.nm_progress.proofs.InterferedCalls.{busy_deletes_were_lost as proof}
use Rattle.nm_progress.proofs.deletes.busy_deletes_were_lost.Goals as goal

pub returns : goal.returns
returns c = proof
