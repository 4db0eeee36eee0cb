use Rattle.std.proofs.Common.{true, ap, subst}
use Rattle.nm_model.specs.declared.event.Event.TheVariants.{LeaveWith}
use Rattle.nm_model.specs.declared.event.Op.TheVariants.{Delete}
use Rattle.nm_model.specs.declared.reply.Reply.TheVariants.{Departed}
use Rattle.nm_order.specs.Facts.Fact.{CallIs}
use Rattle.nm_steps.specs.Steps.{PassView}
use Rattle.nm_steps.proofs.Seeing.{continues_by, continues_then}
use Rattle.nm_calls.specs.declared.deleting.Injection.{Injection}
use Rattle.nm_calls.specs.Deletes.{IfInjected, IsInjection, ShowsInjection, leaf_of}
use Rattle.nm_calls.specs.Maps.{HasReadFlagged}
use Rattle.nm_calls.proofs.Forks.{continued, going_continues}
use Rattle.nm_calls.proofs.Moments.{no_call_on}
use Rattle.nm_calls.proofs.Removals.{removing_on, removing_there}
use Rattle.nm_calls.proofs.TakenValues.{read_until}
use Rattle.nm_calls.proofs.deleting.end_delete.Goals as goal

pub returns-in-Spent-clause-part : goal.returns-in-Spent-clause-part
returns-in-Spent-clause-part c = λ tries before h. (
  c.args.workspace.now.chain.items,
  c.args.pass.now.view.log,
  subst (λ (i : Injection). IsInjection c.args.shared.now.layout c.args.key tries c.args.workspace.now.chain.items
      before c.args.pass.now.view.log i) c.in-Spent.is h,
  ap (λ (x : PassView). x.view.log) c.leave-in-Spent.ensures.took.step,
)

pub returns-in-Removed-clause-on : goal.returns-in-Removed-clause-on
returns-in-Removed-clause-on c =
    continued c.args.pass.now c.remove_after.new.pass c.answer-in-Removed.new.pass (LeaveWith true) Departed
    c.remove_after.ensures.on c.answer-in-Removed.ensures.took

pub returns-in-Removed-clause-moment : goal.returns-in-Removed-clause-moment
returns-in-Removed-clause-moment c = λ o had.
    c.answer-in-Removed.ensures.moment o Delete c.args.key
    (no_call_on o c.args.pass.now c.remove_after.new.pass had c.remove_after.ensures.on.same
    c.remove_after.ensures.on.past)
    (c.remove_after.ensures.on.keeps (CallIs Delete c.args.key) c.requires.call.call)

pub returns-in-Removed-clause-read : goal.returns-in-Removed-clause-read
returns-in-Removed-clause-read c = λ o v h.
    let p = c.remove_after.new.pass in
    let q = c.answer-in-Removed.new.pass in
    read_until o c.args.pass.now q c.args.key v
    (continues_then c.args.pass.now p q (going_continues c.args.pass.now p c.remove_after.ensures.on)
    (continues_by p q (LeaveWith true) Departed c.answer-in-Removed.ensures.took))
    (subst (λ (i : Injection). IfInjected i (HasReadFlagged o c.args.pass.now c.args.key v)) c.in-Flagged.is h)

pub returns-in-Refused-remove_after-clause-read : goal.returns-in-Refused-remove_after-clause-read
returns-in-Refused-remove_after-clause-read c = λ o v h.
    read_until o c.args.pass.now c.remove_after.new.pass c.args.key v
    (going_continues c.args.pass.now c.remove_after.new.pass c.remove_after.ensures.on)
    (subst (λ (i : Injection). IfInjected i (HasReadFlagged o c.args.pass.now c.args.key v)) c.in-Flagged.is h)

pub returns-in-Spent-remove_after-clause-read : goal.returns-in-Spent-remove_after-clause-read
returns-in-Spent-remove_after-clause-read c = λ o v h.
    read_until o c.args.pass.now c.remove_after.new.pass c.args.key v
    (going_continues c.args.pass.now c.remove_after.new.pass c.remove_after.ensures.on)
    (subst (λ (i : Injection). IfInjected i (HasReadFlagged o c.args.pass.now c.args.key v)) c.in-Flagged.is h)

pub returns-in-Refused-remove_after-clause-stands : goal.returns-in-Refused-remove_after-clause-stands
returns-in-Refused-remove_after-clause-stands c =
    let f = c.in-Flagged.flagged in
    let p = c.args.pass.now in
    let shows = subst (λ (i : Injection). ShowsInjection c.args.key c.args.workspace.now.chain.items p i)
    c.in-Flagged.is c.requires.shows in
    rw c.leaf_at-leaf.ensures (removing_on p c.remove_after.new.pass c.args.key (leaf_of f.end f.birth)
    (removing_there p c.args.key (leaf_of f.end f.birth) c.requires.pinned.run c.requires.pinned.pin c.requires.call
    c.requires.labelled shows.0 shows.2) c.remove_after.ensures.on c.remove_after.ensures.only)

pub returns-in-Spent-remove_after-clause-stands : goal.returns-in-Spent-remove_after-clause-stands
returns-in-Spent-remove_after-clause-stands c =
    let f = c.in-Flagged.flagged in
    let p = c.args.pass.now in
    let shows = subst (λ (i : Injection). ShowsInjection c.args.key c.args.workspace.now.chain.items p i)
    c.in-Flagged.is c.requires.shows in
    rw c.leaf_at-leaf.ensures (removing_on p c.remove_after.new.pass c.args.key (leaf_of f.end f.birth)
    (removing_there p c.args.key (leaf_of f.end f.birth) c.requires.pinned.run c.requires.pinned.pin c.requires.call
    c.requires.labelled shows.0 shows.2) c.remove_after.ensures.on c.remove_after.ensures.only)
