use Rattle.nm_theorem.proofs.Readers.{nobody_reads_another}
use Rattle.nm_theorem.proofs.headline.nobody_reads_another_node.Goals as goal

pub returns : goal.returns
returns c = nobody_reads_another
