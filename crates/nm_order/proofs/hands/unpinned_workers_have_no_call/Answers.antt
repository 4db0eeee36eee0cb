use Rattle.nm_order.proofs.OutsidePins.{unpinned_workers_have_no_call as in_every_run}
use Rattle.nm_order.proofs.hands.unpinned_workers_have_no_call.Goals as goal

pub returns : goal.returns
returns c = in_every_run
