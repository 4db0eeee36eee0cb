use Rattle.nm_callers.proofs.FreedInLives.{hands_out_all}
use Rattle.nm_callers.proofs.lives.work_then_reclaim.Goals as goal

pub returns : goal.returns
returns c =
    hands_out_all c.args.member.now.tree c.insert-inserted.new.self.tree c.args.options.now c.args.key c.args.other
    c.remove-removed.new.self.tree.layout c.args.member.now.worker c.insert-inserted.new.self.worker
    c.remove-removed.new.self.worker c.reclaim.new.self.worker c.insert-inserted.result c.remove-removed.result
    c.args.out.now c.reclaim.new.out c.reclaim.result.behind c.reclaim.result.handed c.insert-inserted.ensures.says
    c.remove-removed.ensures.says c.reclaim.ensures.says
