use Rattle.nm_order.proofs.PendingLeaves.{each_flagged_leaf_is_pending}
use Rattle.nm_order.proofs.history.flagged_leaves_are_pending.Goals as goal

pub returns : goal.returns
returns c = each_flagged_leaf_is_pending
