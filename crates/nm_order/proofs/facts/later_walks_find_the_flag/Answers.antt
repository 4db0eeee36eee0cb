use Rattle.nm_order.proofs.LaterFlagLaws.{later_walks_find}
use Rattle.nm_order.proofs.facts.later_walks_find_the_flag.Goals as goal

pub returns : goal.returns
returns c = later_walks_find
