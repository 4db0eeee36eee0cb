use Rattle.std.proofs.Common.{length}
use Rattle.nm_walks.proofs.cleaning.+push_labelled.Given as goal

abbrev pub decreases-push_labelled : goal.decreases-push_labelled
decreases-push_labelled l = length l.nodes.now
