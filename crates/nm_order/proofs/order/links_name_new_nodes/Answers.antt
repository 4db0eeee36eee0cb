use Rattle.nm_order.proofs.LinkedNodes.{links_name_new_nodes as in_every_run}
use Rattle.nm_order.proofs.order.links_name_new_nodes.Goals as goal

pub returns : goal.returns
returns c = in_every_run
