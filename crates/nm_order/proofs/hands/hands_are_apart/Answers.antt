use Rattle.nm_order.proofs.HeldSlots.{hands_are_apart as in_every_run}
use Rattle.nm_order.proofs.hands.hands_are_apart.Goals as goal

pub returns : goal.returns
returns c = in_every_run
