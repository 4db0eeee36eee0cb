use Rattle.nm_calls.proofs.MapsOfRuns.{histories_are_of_maps as proved}
use Rattle.nm_calls.proofs.laws.histories_are_of_maps.Goals as goal

pub returns : goal.returns
returns c = proved
