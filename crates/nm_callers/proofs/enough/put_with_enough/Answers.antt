use Rattle.std.proofs.Common.{true}
use Rattle.nm_model.specs.declared.event.Op.TheVariants.{Insert}
use Rattle.nm_callers.proofs.EnoughSlots.{answers_with_enough, found_one}
use Rattle.nm_callers.proofs.enough.put_with_enough.Goals as goal

pub returns-clause-answered : goal.returns-clause-answered
returns-clause-answered c = λ runs free room.
    let w = c.args.member.now.worker in
    let z = c.insert-inserted.new.self.worker in
    answers_with_enough true c.args.member.now.tree c.args.options.now Insert c.args.key w z c.requires.some runs
    (found_one w.pass z.pass c.know_run.ensures.seen c.know_run.ensures.fits free) room c.insert-inserted.result
    c.requires.free c.insert-inserted.ensures.says
