use Rattle.nm_edge.proofs.Packing.{unpacked_word}
use Rattle.nm_edge.proofs.laws.unpacking_gives_the_edge.Goals as goal

pub returns : goal.returns
returns c = unpacked_word
