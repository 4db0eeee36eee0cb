use Rattle.nm_calls.proofs.OneStore.{leaves_have_one_store as proved}
use Rattle.nm_calls.proofs.laws.leaves_have_one_store.Goals as goal

pub returns : goal.returns
returns c = proved
