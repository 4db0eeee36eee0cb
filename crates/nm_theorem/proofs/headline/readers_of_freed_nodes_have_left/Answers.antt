use Rattle.nm_theorem.proofs.LeftSince.{readers_have_left}
use Rattle.nm_theorem.proofs.headline.readers_of_freed_nodes_have_left.Goals as goal

pub returns : goal.returns
returns c = readers_have_left
