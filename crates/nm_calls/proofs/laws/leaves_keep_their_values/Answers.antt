use Rattle.nm_calls.proofs.KeptValues.{leaves_keep_their_values as proved}
use Rattle.nm_calls.proofs.laws.leaves_keep_their_values.Goals as goal

pub returns : goal.returns
returns c = proved
