use Rattle.nm_calls.proofs.ComingBack.{nodes_are_freed_once as proved}
use Rattle.nm_calls.proofs.laws.nodes_are_freed_once.Goals as goal

pub returns : goal.returns
returns c = proved
