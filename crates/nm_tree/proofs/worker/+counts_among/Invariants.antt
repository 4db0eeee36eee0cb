use Rattle.std.proofs.Common.{length}
use Rattle.nm_tree.proofs.worker.+counts_among.Given as goal

abbrev pub decreases-counts_among : goal.decreases-counts_among
decreases-counts_among l = length l.queues.now
