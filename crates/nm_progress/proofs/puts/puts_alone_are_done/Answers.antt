use Rattle.nm_progress.proofs.LostPuts.{puts_alone_are_done as proof}
use Rattle.nm_progress.proofs.puts.puts_alone_are_done.Goals as goal

pub returns : goal.returns
returns c = proof
