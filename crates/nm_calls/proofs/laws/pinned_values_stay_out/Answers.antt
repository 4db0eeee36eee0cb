use Rattle.nm_calls.proofs.ComingBack.{pinned_values_stay_out as proved}
use Rattle.nm_calls.proofs.laws.pinned_values_stay_out.Goals as goal

pub returns : goal.returns
returns c = proved
