use Rattle.std.proofs.Common.{true}
use Rattle.nm_callers.proofs.EnoughSlots.{removes_with_room}
use Rattle.nm_callers.proofs.enough.take_with_enough.Goals as goal

pub returns-clause-answered : goal.returns-clause-answered
returns-clause-answered c = λ runs room. removes_with_room true c.args.member.now.tree c.args.options.now c.args.key
    c.args.member.now.worker c.remove.new.self.worker c.requires.some runs room c.remove.result c.requires.free
    c.remove.ensures.says
