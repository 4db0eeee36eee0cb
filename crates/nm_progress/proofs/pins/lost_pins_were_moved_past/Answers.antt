use Rattle.nm_progress.proofs.LostPins.{lost_pins_were_moved_past as proof}
use Rattle.nm_progress.proofs.pins.lost_pins_were_moved_past.Goals as goal

pub returns : goal.returns
returns c = proof
