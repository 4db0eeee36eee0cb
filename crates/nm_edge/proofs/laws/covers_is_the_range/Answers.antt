use Rattle.nm_edge.proofs.RangeBits.{covers_is_the_range}
use Rattle.nm_edge.proofs.laws.covers_is_the_range.Goals as goal

pub returns : goal.returns
returns c = covers_is_the_range
