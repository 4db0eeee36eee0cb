use Rattle.std.proofs.Common.{rules, refl}
use Rattle.nm_model.proofs.QueueIndices.{covers_more}
use Rattle.nm_model.proofs.indices.index_from.Goals as goal

pub loop-index-preserved : goal.loop-index-preserved
loop-index-preserved c = rw c.in_ok-put_index.ensures.ok
    (covers_more c.loop-index.indices c.args.entries.now c.loop-index.index _ _ refl (search rules)
    c.loop-index.invariant)
