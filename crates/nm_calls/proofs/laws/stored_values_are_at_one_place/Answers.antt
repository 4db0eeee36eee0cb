use Rattle.nm_calls.proofs.StoredLeaves.{stored_values_are_at_one_place as proved}
use Rattle.nm_calls.proofs.laws.stored_values_are_at_one_place.Goals as goal

pub returns : goal.returns
returns c = proved
