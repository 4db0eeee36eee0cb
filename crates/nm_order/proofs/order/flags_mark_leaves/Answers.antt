use Rattle.nm_order.proofs.OwnFlags.{each_flag_marks}
use Rattle.nm_order.proofs.order.flags_mark_leaves.Goals as goal

pub returns : goal.returns
returns c = each_flag_marks
