use Rattle.std.proofs.Common.{rules}
use Rattle.std.proofs.lemmas.List.Edits.{map_over_more}
use Rattle.nm_model.specs.Queues.{with_label}
use Rattle.nm_model.proofs.queue.label_from.Goals as goal

pub loop-index-preserved : goal.loop-index-preserved
loop-index-preserved c = rw c.with_label.ensures
    (map_over_more (with_label c.args.label) c.args.entries.now.items c.loop-index.entries.items c.loop-index.index
    c.index.result.now (search rules) c.loop-index.invariant c.index.ensures)
