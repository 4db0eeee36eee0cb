use Rattle.nm_calls.proofs.MoreStores.{values_are_by_all_stores as proved}
use Rattle.nm_calls.proofs.laws.values_are_by_all_stores.Goals as goal

pub returns : goal.returns
returns c = proved
