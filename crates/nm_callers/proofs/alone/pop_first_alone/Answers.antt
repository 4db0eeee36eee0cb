use Rattle.nm_callers.proofs.RunningAlone.{pop_answered}
use Rattle.nm_callers.proofs.alone.pop_first_alone.Goals as goal

pub returns : goal.returns
returns c = pop_answered c.args.tree.now.layout c.args.tries c.args.worker.now c.pop_first.new.worker
    c.pop_first.result c.requires.two c.requires.free c.pop_first.ensures.says
