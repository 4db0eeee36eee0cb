use Rattle.std.proofs.Common.{length}
use Rattle.nm_callers.proofs.arena.+reset_each.Given as goal

abbrev pub decreases-reset_each : goal.decreases-reset_each
decreases-reset_each l = length l.numbers.now
