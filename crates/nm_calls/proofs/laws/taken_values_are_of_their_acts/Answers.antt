use Rattle.nm_calls.proofs.TakingActs.{taken_values_are_of_their_acts as proved}
use Rattle.nm_calls.proofs.laws.taken_values_are_of_their_acts.Goals as goal

pub returns : goal.returns
returns c = proved
