use Rattle.nm_order.proofs.HeldLedgers.{held_ledgers_are_kept as in_every_run}
use Rattle.nm_order.proofs.hands.held_ledgers_are_kept.Goals as goal

pub returns : goal.returns
returns c = in_every_run
