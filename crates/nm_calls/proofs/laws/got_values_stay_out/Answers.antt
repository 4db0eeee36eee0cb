use Rattle.nm_calls.proofs.UnderPins.{got_leaves_are_not_freed, got_values_stay_out as proved}
use Rattle.nm_calls.proofs.laws.got_values_stay_out.Goals as goal

pub returns : goal.returns
returns c = record { leaves = got_leaves_are_not_freed; values = proved }
