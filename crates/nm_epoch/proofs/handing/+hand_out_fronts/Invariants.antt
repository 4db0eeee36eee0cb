use Rattle.std.proofs.Common.{length}
use Rattle.nm_epoch.proofs.handing.+hand_out_fronts.Given as goal

abbrev pub decreases-hand_out_fronts : goal.decreases-hand_out_fronts
decreases-hand_out_fronts l = length l.queues.now
