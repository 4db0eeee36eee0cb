use Rattle.nm_calls.proofs.TakenUntilCut.{taken_values_are_cut as proved}
use Rattle.nm_calls.proofs.laws.taken_values_are_cut.Goals as goal

pub returns : goal.returns
returns c = proved
