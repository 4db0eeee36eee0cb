use Rattle.std.proofs.Common.{length}
use Rattle.nm_tree.proofs.closing.+count_given.Given as goal

abbrev pub decreases-count_given : goal.decreases-count_given
decreases-count_given l = length l.workers.now
