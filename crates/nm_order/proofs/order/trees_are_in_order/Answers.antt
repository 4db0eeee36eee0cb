use Rattle.nm_order.proofs.OrderedLaws.{each_key_lies, each_leaf_has_its_key}
use Rattle.nm_order.proofs.order.trees_are_in_order.Goals as goal

pub returns-clause-keys : goal.returns-clause-keys
returns-clause-keys c = each_key_lies

pub returns-clause-leaves : goal.returns-clause-leaves
returns-clause-leaves c = each_leaf_has_its_key
