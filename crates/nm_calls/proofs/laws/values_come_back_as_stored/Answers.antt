use Rattle.nm_calls.proofs.HandedStores.{values_come_back_as_stored as proved}
use Rattle.nm_calls.proofs.laws.values_come_back_as_stored.Goals as goal

pub returns : goal.returns
returns c = proved
