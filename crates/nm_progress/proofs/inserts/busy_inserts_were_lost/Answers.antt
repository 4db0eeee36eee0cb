use Rattle.nm_progress.proofs.InterferedCalls.{busy_inserts_were_lost as proof}
use Rattle.nm_progress.proofs.inserts.busy_inserts_were_lost.Goals as goal

pub returns : goal.returns
returns c = proof
