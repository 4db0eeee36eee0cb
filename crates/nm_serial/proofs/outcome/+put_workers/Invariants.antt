use Rattle.std.proofs.Common.{length}
use Rattle.nm_serial.proofs.outcome.+put_workers.Given as goal

abbrev pub decreases-put_workers : goal.decreases-put_workers
decreases-put_workers l = length l.queues.now
