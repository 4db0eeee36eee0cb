use Rattle.nm_calls.proofs.MapsOfRuns.{gets_are_of_the_map as proved}
use Rattle.nm_calls.proofs.laws.gets_are_of_the_map.Goals as goal

pub returns : goal.returns
returns c = proved
