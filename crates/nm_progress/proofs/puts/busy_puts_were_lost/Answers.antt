use Rattle.nm_progress.proofs.LostPuts.{busy_puts_were_lost as proof}
use Rattle.nm_progress.proofs.puts.busy_puts_were_lost.Goals as goal

pub returns : goal.returns
returns c = proof
