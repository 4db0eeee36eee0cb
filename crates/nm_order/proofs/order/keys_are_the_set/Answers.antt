use Rattle.nm_order.proofs.OrderedLaws.{each_core_tells_the_set, each_key_ascends}
use Rattle.nm_order.proofs.order.keys_are_the_set.Goals as goal

pub returns-clause-set : goal.returns-clause-set
returns-clause-set c = each_core_tells_the_set

pub returns-clause-ascend : goal.returns-clause-ascend
returns-clause-ascend c = each_key_ascends
