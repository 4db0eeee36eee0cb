use Rattle.nm_calls.proofs.UnderPins.{guarded_leaves_are_not_freed, guarded_values_stay_out as proved}
use Rattle.nm_calls.proofs.laws.guarded_values_stay_out.Goals as goal

pub returns : goal.returns
returns c = record { leaves = guarded_leaves_are_not_freed; values = proved }
