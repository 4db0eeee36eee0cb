use Rattle.nm_callers.proofs.RunningAlone.{both_answered}
use Rattle.nm_callers.proofs.alone.insert_then_delete_alone.Goals as goal

pub returns : goal.returns
returns c = both_answered c.args.tree.now.layout c.args.tries c.args.key c.args.worker.now
    c.insert-inserted.new.worker c.delete-deleted.new.worker c.insert-inserted.result c.delete-deleted.result
    c.requires.two c.requires.free c.insert-inserted.ensures.leaves c.delete-deleted.ensures.leaves
