use Rattle.nm_calls.proofs.KeptValues.{put_values_stay as proved}
use Rattle.nm_calls.proofs.laws.put_values_stay.Goals as goal

pub returns : goal.returns
returns c = proved
