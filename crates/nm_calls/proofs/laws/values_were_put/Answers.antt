use Rattle.nm_calls.proofs.MapsOfRuns.{values_were_put as proved}
use Rattle.nm_calls.proofs.laws.values_were_put.Goals as goal

pub returns : goal.returns
returns c = proved
