use Rattle.nm_callers.proofs.FreedInLives.{frees_by_collections}
use Rattle.nm_callers.proofs.lives.freed_nodes_were_handed_out.Goals as goal

pub returns : goal.returns
returns c = frees_by_collections
