use Rattle.nm_callers.proofs.RunningAlone.{popped_alone}
use Rattle.nm_callers.proofs.alone.pop_alone.Goals as goal

pub returns-clause-answered : goal.returns-clause-answered
returns-clause-answered c = popped_alone c.args.member.now.tree c.args.options.now c.args.member.now.worker
    c.pop_first.new.self.worker c.pop_first.result c.requires.two c.requires.free c.pop_first.ensures.says
