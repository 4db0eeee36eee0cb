use Rattle.std.proofs.Common.{length}
use Rattle.nm_serial.proofs.many_threads.+fault_of.Given as goal

abbrev pub decreases-fault_of : goal.decreases-fault_of
decreases-fault_of l = length l.played.now
