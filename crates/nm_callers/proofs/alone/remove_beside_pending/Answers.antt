use Rattle.nm_model.specs.declared.event.Op.TheVariants.{Delete}
use Rattle.nm_callers.proofs.BesidePending.{change_beside}
use Rattle.nm_callers.proofs.alone.remove_beside_pending.Goals as goal

pub returns-clause-answered : goal.returns-clause-answered
returns-clause-answered c = change_beside Delete (λ is. let no = is in cc) c.args.member.now.tree c.args.options.now
    c.args.key c.args.member.now.worker c.remove-removed.new.self.worker c.remove-removed.result
    c.know_run.ensures.seen c.know_run-2.ensures.seen c.know_run.ensures.fits c.requires.free c.requires.many
    c.remove-removed.ensures.says
