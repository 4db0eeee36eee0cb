use Rattle.nm_calls.proofs.MoreStores.{cut_values_were_stored as proved}
use Rattle.nm_calls.proofs.laws.cut_values_were_stored.Goals as goal

pub returns : goal.returns
returns c = proved
