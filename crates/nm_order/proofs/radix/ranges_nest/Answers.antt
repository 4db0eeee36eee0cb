use Rattle.nm_order.proofs.RadixLaws.{each_range_nests}
use Rattle.nm_order.proofs.radix.ranges_nest.Goals as goal

pub returns : goal.returns
returns c = each_range_nests
