use Rattle.std.specs.Prelude.{Result}
use Rattle.nm_model.specs.declared.event.Event.TheVariants.{Leave}
use Rattle.nm_model.specs.declared.event.Op.TheVariants.{Delete}
use Rattle.nm_model.specs.declared.reply.Reply.TheVariants.{Departed}
use Rattle.nm_walks.proofs.GoingOn.{call_still}
use Rattle.nm_calls.specs.declared.deleting.Deletion.{Deletion}
use Rattle.nm_calls.specs.declared.deleting.Removal.TheVariants as removal
use Rattle.nm_calls.specs.declared.fault.CallFault.{CallFault}
use Rattle.nm_calls.specs.Deletes.{DeleteFinishes, FlagsThen, IfDone, LacksRoomOr}
use Rattle.nm_calls.specs.Moments.{AnswerHasMoment}
use Rattle.nm_calls.proofs.Forks.{continued}
use Rattle.nm_calls.proofs.Moments.{no_call_on}
use Rattle.nm_puts.proofs.ExpectedValues.{as_outcome}
use Rattle.nm_puts.proofs.removing.delete_if_pinned.Goals as goal

pub end_delete-done-requires-clause-call : goal.end_delete-done-requires-clause-call
end_delete-done-requires-clause-call c = call_still Delete c.args.key c.args.pass.now c.inject_if.new.pass
    c.inject_if.ensures.on c.requires.call

pub returns-in-Ok-clause-part : goal.returns-in-Ok-clause-part
returns-in-Ok-clause-part c =
    let old = c.args.pass.now.view.log in
    rw c.outcome_of.ensures (as_outcome
    (DeleteFinishes c.args.shared.now.layout c.args.tries c.args.key old c.end_delete-done.new.pass.view.log)
    c.end_delete-done.result (c.end_delete-done.ensures.part c.args.tries old c.in-Ok.ensures.part))

pub returns-in-Ok-clause-refused : goal.returns-in-Ok-clause-refused
returns-in-Ok-clause-refused c =
    let old = c.args.pass.now.view.log in
    let new = c.end_delete-done.new.pass.view.log in
    rw c.outcome_of.ensures (as_outcome
    (LacksRoomOr (λ n. FlagsThen c.args.shared.now.layout c.args.tries c.args.key n old new removal.Spent)
    c.end_delete-done.new.held.queue.spare)
    c.end_delete-done.result (c.end_delete-done.ensures.lacks c.args.tries old c.in-Ok.ensures.part))

pub returns-in-Ok-clause-moment : goal.returns-in-Ok-clause-moment
returns-in-Ok-clause-moment c = λ o had.
    let q = c.end_delete-done.new.pass in
    rw c.outcome_of.ensures (as_outcome
    (λ (r : Result Deletion CallFault). IfDone r (AnswerHasMoment o q Delete c.args.key))
    c.end_delete-done.result (c.end_delete-done.ensures.moment o
    (no_call_on o c.args.pass.now c.inject_if.new.pass had c.inject_if.ensures.on.same c.inject_if.ensures.on.past)))

pub returns-in-Err-clause-on : goal.returns-in-Err-clause-on
returns-in-Err-clause-on c = continued c.args.pass.now c.inject_if.new.pass c.leave.new.pass Leave Departed
    c.inject_if.ensures.on c.leave.ensures.took
