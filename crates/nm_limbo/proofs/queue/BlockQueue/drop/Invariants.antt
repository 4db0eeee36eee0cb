use Rattle.std.proofs.Common.{length}
use Rattle.nm_limbo.proofs.queue.BlockQueue.drop.Given as goal

abbrev pub decreases-loop-item : goal.decreases-loop-item
decreases-loop-item g l = length l.self.items
