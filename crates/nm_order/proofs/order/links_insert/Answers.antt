use Rattle.nm_order.proofs.OrderedLaws.{each_link_inserts}
use Rattle.nm_order.proofs.order.links_insert.Goals as goal

pub returns : goal.returns
returns c = each_link_inserts
