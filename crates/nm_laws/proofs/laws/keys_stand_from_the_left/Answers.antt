use Rattle.nm_laws.proofs.KeysOfPaths.{each_state_tells_keys_from_the_left}
use Rattle.nm_laws.proofs.laws.keys_stand_from_the_left.Goals as goal

pub returns : goal.returns
returns c = each_state_tells_keys_from_the_left
