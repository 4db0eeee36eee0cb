use Rattle.std.proofs.Common.{subst, sym}
use Rattle.std.specs.Prelude.{Ok}
use Rattle.nm_shared.specs.Sharing.{AttachedView, IsBorrowed}
use Rattle.nm_shared.proofs.Borrowed.{back_after, said_by}
use Rattle.nm_callers.specs.AnyThread.{InsertedThenFound}
use Rattle.nm_callers.proofs.Attached.{both_answered, keeps_both}
use Rattle.nm_callers.proofs.any_thread.insert_then_find_attached.Goals as goal

pub detach-caller-requires : goal.detach-caller-requires
detach-caller-requires c = record {
  back = back_after c.args.set.now c.args.caller _ _ _ c.attached.inside.loan c.deref_mut.ensures.value
      (subst (λ (a : AttachedView). IsBorrowed c.args.set.now c.args.caller a.member a.loan)
      (sym c.attached.view_is) c.in-Ok.ensures.lent) c.insert_then_find_by-inserted.ensures.tree
      (keeps_both _ _ _ _ _ _ _ c.insert_then_find_by-inserted.ensures.says);
}

pub returns-in-Ok-Ok-clause-visited : goal.returns-in-Ok-Ok-clause-visited
returns-in-Ok-Ok-clause-visited c = said_by c.args.set.now c.args.caller _ _ _ c.attached.inside.loan
    c.deref_mut.ensures.value
    (subst (λ (a : AttachedView). IsBorrowed c.args.set.now c.args.caller a.member a.loan)
    (sym c.attached.view_is) c.in-Ok.ensures.lent) c.insert_then_find_by-inserted.ensures.tree
    (keeps_both _ _ _ _ _ _ _ c.insert_then_find_by-inserted.ensures.says)
    (λ b w z. InsertedThenFound b c.args.options.now c.args.key (Ok c.in-Ok-Ok.inserted) (Ok c.in-Ok-Ok.found) w z)
    c.detach-caller.result
    (both_answered _ _ _ _ _ _ _ _ _ c.in-Ok-Ok.is-0 c.in-Ok-Ok.is-1 c.insert_then_find_by-inserted.ensures.says)
    c.detach-caller.ensures.visits c.detach-caller.ensures.note
