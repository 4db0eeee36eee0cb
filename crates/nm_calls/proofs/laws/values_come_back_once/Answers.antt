use Rattle.nm_calls.proofs.OnceBack.{values_come_back_once as proved}
use Rattle.nm_calls.proofs.laws.values_come_back_once.Goals as goal

pub returns : goal.returns
returns c = proved
