use Rattle.nm_edge.proofs.Packing.{packed_edge}
use Rattle.nm_edge.proofs.laws.packing_gives_the_word.Goals as goal

pub returns : goal.returns
returns c = packed_edge
