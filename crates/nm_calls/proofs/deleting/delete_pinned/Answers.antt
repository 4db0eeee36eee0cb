use Rattle.nm_model.specs.declared.event.Op.TheVariants.{Delete}
use Rattle.nm_steps.proofs.Seeing.{continues_then}
use Rattle.nm_walks.proofs.GoingOn.{call_still}
use Rattle.nm_calls.proofs.Forks.{going_continues}
use Rattle.nm_calls.proofs.deleting.delete_pinned.Goals as goal

pub end_delete-requires-clause-call : goal.end_delete-requires-clause-call
end_delete-requires-clause-call c = call_still Delete c.args.key c.args.pass.now c.inject-injection.new.pass
    c.inject-injection.ensures.on c.requires.call

pub returns-clause-on : goal.returns-clause-on
returns-clause-on c =
    let p = c.inject-injection.new.pass in
    continues_then c.args.pass.now p c.end_delete.new.pass
    (going_continues c.args.pass.now p c.inject-injection.ensures.on) c.end_delete.ensures.on

pub returns-clause-part : goal.returns-clause-part
returns-clause-part c = c.end_delete.ensures.part c.args.tries c.args.pass.now.view.log c.inject-injection.ensures.part

pub returns-clause-refused : goal.returns-clause-refused
returns-clause-refused c = c.end_delete.ensures.lacks c.args.tries c.args.pass.now.view.log
    c.inject-injection.ensures.part
