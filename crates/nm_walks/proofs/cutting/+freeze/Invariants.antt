use Rattle.std.proofs.Common.{length}
use Rattle.nm_walks.proofs.cutting.+freeze.Given as goal

abbrev pub decreases-freeze : goal.decreases-freeze
decreases-freeze l = length l.chain.now
