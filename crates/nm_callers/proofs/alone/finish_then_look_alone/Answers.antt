use Rattle.nm_model.specs.declared.event.Op.TheVariants.{Has}
use Rattle.nm_callers.proofs.RunningAlone.{managed_answered, was_managed}
use Rattle.nm_callers.proofs.alone.finish_then_look_alone.Goals as goal

pub returns-clause-answered : goal.returns-clause-answered
returns-clause-answered c =
    let b = c.args.member.now.tree in
    let h = c.args.options.now in
    let w = c.args.member.now.worker in
    let z = c.contains.new.self.worker in
    managed_answered b h c.args.key w z c.requires.some Has c.contains.result
    (was_managed Has b h c.args.key w z c.contains.result c.requires.free c.contains.ensures.says)
