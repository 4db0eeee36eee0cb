use Rattle.std.proofs.Common.{length}
use Rattle.nm_epoch.proofs.collecting.+collect_fronts.Given as goal

abbrev pub decreases-collect_fronts : goal.decreases-collect_fronts
decreases-collect_fronts l = length l.queues.now
