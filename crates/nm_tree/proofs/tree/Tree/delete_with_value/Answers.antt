use Rattle.std.proofs.Common.{rules, inl, inr, None, Some, ap, refl, subst, ◌∙◌, arith}
use Rattle.std.specs.Prelude.{Ok, Err, slice_set}
use Rattle.nm_model.specs.Maps.{get}
use Rattle.nm_steps.proofs.Seeing.{seen_all}
use Rattle.nm_tree.specs.Workers.{WorkerView, held_in, pending_in}
use Rattle.nm_tree.proofs.QueueLists.{lacks_after, stands_within, room_after}
use Rattle.nm_tree.proofs.Staying.{resting_in, rests_in, rests_as, free_in}
use Rattle.nm_tree.proofs.Interfered.{delete_interfered, delete_lost, delete_alone, delete_finished}
use Rattle.nm_tree.proofs.Changing.{kept_there, changed, others_kept}
use Rattle.nm_calls.specs.declared.deleting.Deletion.{Deletion}
use Rattle.nm_calls.specs.declared.fault.CallFault.{CallFault}
use Rattle.nm_calls.specs.Deletes.{DeleteDid, LacksRoomOr, LosesAfterFlag}
use Rattle.nm_calls.specs.declared.fault.CallFault.TheVariants as fault
use Rattle.nm_tree.proofs.Telling.{deleted_so, two_faults}
use Rattle.nm_tree.proofs.Untouched.{delete_pending}
use Rattle.nm_tree.proofs.tree.Tree.delete_with_value.Goals as goal

pub returns-in-Pending-clause-leaves : goal.returns-in-Pending-clause-leaves
returns-in-Pending-clause-leaves c = delete_pending c.args.self.now.layout c.args.tries c.args.key c.args.worker.now
    (search rules) c.requires.free

pub returns-in-Pending-clause-says : goal.returns-in-Pending-clause-says
returns-in-Pending-clause-says c = (returns-in-Pending-clause-leaves c).says

pub index_mut-own-requires : goal.index_mut-own-requires
index_mut-own-requires c = omega (
  arith,
  stands_within c.worker.inside.home _ c.worker.inside.queues.items
      c.worker.invariant.own,
  c.worker.inside.queues.ok.0,
)

pub delete-requires-clause-rests : goal.delete-requires-clause-rests
delete-requires-clause-rests c = rests_in c.worker.inside.pass c.worker.inside.standing
    (resting_in c.worker.inside.standing (ap (λ (w : WorkerView). w.held) c.worker.view_is ∙ c.requires.free)
    c.in_default.not-Pending) c.worker.invariant.between.stands

pub delete-requires-clause-kept : goal.delete-requires-clause-kept
delete-requires-clause-kept c = kept_there _ c.worker.inside.home _ c.worker.invariant c.index_mut-own.ensures.value

pub invariant_of-worker : goal.invariant_of-worker
invariant_of-worker c =
    changed _ c.worker.inside.home c.delete.new.pass _ _ c.delete.new.held c.worker.invariant
    c.delete.ensures.after.same c.delete.ensures.kept
    c.delete.ensures.after.ledgers.others (λ slot. ap (λ ds. get ds slot) c.delete.ensures.after.private)
    (rests_as c.delete.new.pass c.worker.inside.standing
    (resting_in c.worker.inside.standing (ap (λ (w : WorkerView). w.held) c.worker.view_is ∙ c.requires.free)
    c.in_default.not-Pending) (rw c.in-Ok-Done.field-0-is at c.in-Ok-Done.ensures.after.stands))
    (_, c.index_mut-own.ensures.value, c.delete.ensures.blocks)

pub returns-in-Ok-Done-clause-says : goal.returns-in-Ok-Done-clause-says
returns-in-Ok-Done-clause-says c = record {
  same = search rules;
  past = search (rules, seen_all);
  told = rw (← c.worker.view_is) (free_in c.worker.inside.standing
      (resting_in c.worker.inside.standing (ap (λ (w : WorkerView). w.held) c.worker.view_is ∙ c.requires.free)
      c.in_default.not-Pending));
  moment = search rules;
  won = search rules;
  steps = search rules;
  queues = others_kept _ _ c.worker.inside.home c.delete.new.pass c.delete.new.held c.worker.view_is
      c.worker.invariant.own c.delete.ensures.kept.own c.delete.ensures.after.same;
  blocks = rw (← c.worker.view_is) (room_after c.worker.inside.home _ c.worker.inside.queues.items _
      c.delete.new.held c.worker.invariant.own c.index_mut-own.ensures.value c.delete.ensures.blocks);
  held = search rules;
  fit = search rules;
}

pub returns-in-Ok-Done-clause-leaves : goal.returns-in-Ok-Done-clause-leaves
returns-in-Ok-Done-clause-leaves c = record {
  says = returns-in-Ok-Done-clause-says c;
  did = (
      deleted_so _ _ c.args.tries c.args.key _ _ (record {
        pass = c.delete.new.pass;
        queues = slice_set c.worker.inside.queues.items c.worker.inside.home
            c.delete.new.held;
        pending = pending_in c.worker.inside.standing;
        held = held_in c.worker.inside.standing;
        fit = c.delete.new.workspace.placement;
      })
      (Ok c.in-Ok-Done.answer) c.self.view_is c.worker.view_is (
        free_in c.worker.inside.standing (resting_in c.worker.inside.standing
            (ap (λ (w : WorkerView). w.held) c.worker.view_is ∙ c.requires.free) c.in_default.not-Pending),
        (let P : Deletion → Type 0 = λ m. DeleteDid c.self.inside.shared.layout c.args.tries c.args.key
            c.worker.inside.pass.view.log c.delete.new.pass.view.log (Ok m) in
            subst P c.in-Ok-Done.field-0-is c.in-Ok-Done.ensures.after.did),
      )
      );
  lacks = search rules;
  interfered = λ is. absurd (let no = is in cc);
  lost = λ is. absurd (let no = is in cc);
  alone = λ runs. tt;
}

pub invariant_of-worker-in-Err : goal.invariant_of-worker-in-Err
invariant_of-worker-in-Err c =
    changed _ c.worker.inside.home c.delete.new.pass _ _ c.delete.new.held c.worker.invariant
    c.delete.ensures.after.same c.delete.ensures.kept
    c.delete.ensures.after.ledgers.others (λ slot. ap (λ ds. get ds slot) c.delete.ensures.after.private)
    (rests_as c.delete.new.pass c.worker.inside.standing
    (resting_in c.worker.inside.standing (ap (λ (w : WorkerView). w.held) c.worker.view_is ∙ c.requires.free)
    c.in_default.not-Pending) c.in-Err.ensures.after.stands)
    (_, c.index_mut-own.ensures.value, c.delete.ensures.blocks)

pub returns-in-Err-clause-says : goal.returns-in-Err-clause-says
returns-in-Err-clause-says c =
    elim (two_faults c.self.inside.shared.layout c.args.tries c.args.key c.worker.inside.pass.view.log
    c.delete.new.pass.view.log c.in-Err.fault c.in-Err.ensures.after.did) [
      | inl busy ↦ rw busy (record {
        same = search rules;
        past = search (rules, seen_all);
        told = rw (← c.worker.view_is) (free_in c.worker.inside.standing
            (resting_in c.worker.inside.standing (ap (λ (w : WorkerView). w.held) c.worker.view_is ∙ c.requires.free)
            c.in_default.not-Pending));
        moment = search rules;
        won = search rules;
        steps = search rules;
        queues = others_kept _ _ c.worker.inside.home c.delete.new.pass c.delete.new.held c.worker.view_is
            c.worker.invariant.own c.delete.ensures.kept.own c.delete.ensures.after.same;
        blocks = rw (← c.worker.view_is) (room_after c.worker.inside.home _ c.worker.inside.queues.items _
            c.delete.new.held c.worker.invariant.own c.index_mut-own.ensures.value c.delete.ensures.blocks);
        held = search rules;
        fit = search rules;
      })
      | inr out ↦ rw out (record {
        same = search rules;
        past = search (rules, seen_all);
        told = (
            let P : CallFault → Type 0 = λ m. LacksRoomOr
            (LosesAfterFlag c.self.inside.shared.layout c.args.tries c.args.key c.worker.inside.pass.view.log
            c.delete.new.pass.view.log) c.delete.new.held.queue.spare (Err m) in (
              rw (← c.worker.view_is) (free_in c.worker.inside.standing
                  (resting_in c.worker.inside.standing (ap (λ (w : WorkerView). w.held) c.worker.view_is
                  ∙ c.requires.free) c.in_default.not-Pending)),
              lacks_after c.worker.inside.home _ _
                  c.worker.inside.queues.items c.delete.new.held c.worker.invariant.own c.delete.ensures.kept.own
                  (subst P out c.in-Err.ensures.refused),
            )
            );
        moment = search rules;
        won = search rules;
        steps = search rules;
        queues = others_kept _ _ c.worker.inside.home c.delete.new.pass c.delete.new.held c.worker.view_is
            c.worker.invariant.own c.delete.ensures.kept.own c.delete.ensures.after.same;
        blocks = rw (← c.worker.view_is) (room_after c.worker.inside.home _ c.worker.inside.queues.items _
            c.delete.new.held c.worker.invariant.own c.index_mut-own.ensures.value c.delete.ensures.blocks);
        held = search rules;
        fit = search rules;
      })
    ]

pub returns-in-Err-clause-leaves : goal.returns-in-Err-clause-leaves
returns-in-Err-clause-leaves c =
    elim (two_faults c.self.inside.shared.layout c.args.tries c.args.key c.worker.inside.pass.view.log
    c.delete.new.pass.view.log c.in-Err.fault c.in-Err.ensures.after.did) [
      | inl busy ↦ rw busy (record {
        says = rw busy at (returns-in-Err-clause-says c);
        did = (
            deleted_so _ _ c.args.tries c.args.key _ _ (record {
              pass = c.delete.new.pass;
              queues = slice_set c.worker.inside.queues.items c.worker.inside.home
                  c.delete.new.held;
              pending = pending_in c.worker.inside.standing;
              held = held_in
                  c.worker.inside.standing;
              fit = c.delete.new.workspace.placement;
            })
            (Err fault.Busy) c.self.view_is c.worker.view_is (
              free_in c.worker.inside.standing (resting_in c.worker.inside.standing
                  (ap (λ (w : WorkerView). w.held) c.worker.view_is ∙ c.requires.free) c.in_default.not-Pending),
              (let P : CallFault → Type 0 = λ m. DeleteDid c.self.inside.shared.layout c.args.tries c.args.key
                  c.worker.inside.pass.view.log c.delete.new.pass.view.log (Err m) in
                  subst P busy c.in-Err.ensures.after.did),
            )
            );
        lacks = search rules;
        interfered = λ is. (
            let P : CallFault → Type 0 = λ m. DeleteDid c.self.inside.shared.layout c.args.tries c.args.key
            c.worker.inside.pass.view.log c.delete.new.pass.view.log (Err m) in
            delete_interfered c.self.inside.shared c.args.self.now c.worker.inside.pass c.args.worker.now.pass
            c.delete.new.pass c.args.key c.args.tries c.self.view_is
            (ap (λ (x : WorkerView). x.pass) c.worker.view_is)
            c.know_run.ensures.seen c.know_run-in-Err.ensures.seen c.know_run.ensures.fits
            c.delete.ensures.after.same c.delete.ensures.after.past c.requires.own
            (subst P busy c.in-Err.ensures.after.did)
            );
        lost = λ is. absurd (let no = is in cc);
        alone = λ runs. (
            let P : CallFault → Type 0 = λ m. DeleteDid c.self.inside.shared.layout c.args.tries c.args.key
            c.worker.inside.pass.view.log c.delete.new.pass.view.log (Err m) in
            delete_alone c.self.inside.shared c.args.self.now c.worker.inside.pass c.args.worker.now.pass
            c.delete.new.pass c.args.key c.args.tries c.self.view_is
            (ap (λ (x : WorkerView). x.pass) c.worker.view_is)
            c.know_run.ensures.seen c.know_run-in-Err.ensures.seen c.know_run.ensures.fits
            c.delete.ensures.after.same c.delete.ensures.after.past c.requires.own runs
            (rests_in c.worker.inside.pass c.worker.inside.standing
            (resting_in c.worker.inside.standing (ap (λ (w : WorkerView). w.held) c.worker.view_is
            ∙ c.requires.free) c.in_default.not-Pending) c.worker.invariant.between.stands)
            (subst P busy c.in-Err.ensures.after.did)
            );
      })
      | inr out ↦ rw out (record {
        says = rw out at (returns-in-Err-clause-says c);
        did = (
            deleted_so _ _ c.args.tries c.args.key _ _ (record {
              pass = c.delete.new.pass;
              queues = slice_set c.worker.inside.queues.items c.worker.inside.home
                  c.delete.new.held;
              pending = pending_in c.worker.inside.standing;
              held = held_in
                  c.worker.inside.standing;
              fit = c.delete.new.workspace.placement;
            })
            (Err fault.NoMemory) c.self.view_is c.worker.view_is (
              free_in c.worker.inside.standing (resting_in c.worker.inside.standing
                  (ap (λ (w : WorkerView). w.held) c.worker.view_is ∙ c.requires.free) c.in_default.not-Pending),
              (let P : CallFault → Type 0 = λ m. DeleteDid c.self.inside.shared.layout c.args.tries c.args.key
                  c.worker.inside.pass.view.log c.delete.new.pass.view.log (Err m) in
                  subst P out c.in-Err.ensures.after.did),
            )
            );
        lacks = (
            let P : CallFault → Type 0 = λ m. LacksRoomOr
            (LosesAfterFlag c.self.inside.shared.layout c.args.tries c.args.key c.worker.inside.pass.view.log
            c.delete.new.pass.view.log) c.delete.new.held.queue.spare (Err m) in
            lacks_after c.worker.inside.home _ _ c.worker.inside.queues.items c.delete.new.held
            c.worker.invariant.own c.delete.ensures.kept.own (subst P out c.in-Err.ensures.refused)
            );
        interfered = λ is. absurd (let no = is in cc);
        lost = λ is. absurd (let no = is in cc);
        alone = λ runs. (
            let P : CallFault → Type 0 = λ m. LacksRoomOr
            (LosesAfterFlag c.self.inside.shared.layout c.args.tries c.args.key c.worker.inside.pass.view.log
            c.delete.new.pass.view.log) c.delete.new.held.queue.spare (Err m) in
            lacks_after c.worker.inside.home _ _ c.worker.inside.queues.items c.delete.new.held
            c.worker.invariant.own c.delete.ensures.kept.own (subst P out c.in-Err.ensures.refused)
            );
      })
    ]

pub invariant_of-worker-in-Ok-Pending : goal.invariant_of-worker-in-Ok-Pending
invariant_of-worker-in-Ok-Pending c =
    changed _ c.worker.inside.home c.delete.new.pass _ _ c.delete.new.held c.worker.invariant
    c.delete.ensures.after.same c.delete.ensures.kept
    c.delete.ensures.after.ledgers.others (λ slot. ap (λ ds. get ds slot) c.delete.ensures.after.private)
    (rw c.in-Ok-Pending.field-0-is at c.in-Ok-Pending.ensures.after.stands)
    (_, c.index_mut-own.ensures.value, c.delete.ensures.blocks)

pub returns-in-Ok-Pending-clause-says : goal.returns-in-Ok-Pending-clause-says
returns-in-Ok-Pending-clause-says c = record {
  same = search rules;
  past = search (rules, seen_all);
  told = rw (← c.worker.view_is) (
    (free_in c.worker.inside.standing
        (resting_in c.worker.inside.standing (ap (λ (w : WorkerView). w.held) c.worker.view_is ∙ c.requires.free)
        c.in_default.not-Pending)).0,
    c.in-Ok-Pending.leaf,
    refl,
  );
  moment = search rules;
  won = search rules;
  steps = search rules;
  queues = others_kept _ _ c.worker.inside.home c.delete.new.pass c.delete.new.held c.worker.view_is
      c.worker.invariant.own c.delete.ensures.kept.own c.delete.ensures.after.same;
  blocks = rw (← c.worker.view_is) (room_after c.worker.inside.home _ c.worker.inside.queues.items _
      c.delete.new.held c.worker.invariant.own c.index_mut-own.ensures.value c.delete.ensures.blocks);
  held = search rules;
  fit = search rules;
}

pub returns-in-Ok-Pending-clause-leaves : goal.returns-in-Ok-Pending-clause-leaves
returns-in-Ok-Pending-clause-leaves c = record {
  says = returns-in-Ok-Pending-clause-says c;
  did = (
      deleted_so _ _ c.args.tries c.args.key _ _ (record {
        pass = c.delete.new.pass;
        queues = slice_set c.worker.inside.queues.items c.worker.inside.home
            c.delete.new.held;
        pending = Some (record { key = c.args.key; leaf = c.in-Ok-Pending.leaf });
        held = None;
        fit = c.delete.new.workspace.placement;
      })
      (Err fault.Unfinished) c.self.view_is c.worker.view_is (
        (free_in c.worker.inside.standing (resting_in c.worker.inside.standing
            (ap (λ (w : WorkerView). w.held) c.worker.view_is ∙ c.requires.free) c.in_default.not-Pending)).0,
        c.in-Ok-Pending.leaf,
        refl,
        (let P : Deletion
            → Type 0 = λ m. DeleteDid c.self.inside.shared.layout c.args.tries c.args.key c.worker.inside.pass.view.log
            c.delete.new.pass.view.log (Ok m) in subst P c.in-Ok-Pending.field-0-is c.in-Ok-Pending.ensures.after.did),
      )
      );
  lacks = (
      let P : Deletion → Type 0 = λ m. LacksRoomOr (LosesAfterFlag c.self.inside.shared.layout c.args.tries
      c.args.key c.worker.inside.pass.view.log c.delete.new.pass.view.log) c.delete.new.held.queue.spare (Ok m) in
      rw (← c.self.view_is, ← c.worker.view_is)
      (elim (subst P c.in-Ok-Pending.field-0-is c.in-Ok-Pending.ensures.refused) [
        | inl less ↦ inl (lacks_after c.worker.inside.home _ _ c.worker.inside.queues.items c.delete.new.held
            c.worker.invariant.own c.delete.ensures.kept.own less)
        | inr lost ↦ inr (c.in-Ok-Pending.leaf, lost)
      ])
      );
  interfered = λ is. absurd (let no = is in cc);
  lost = λ is. (
      let P : Deletion → Type 0 = λ m. LacksRoomOr (LosesAfterFlag c.self.inside.shared.layout c.args.tries
      c.args.key c.worker.inside.pass.view.log c.delete.new.pass.view.log) c.delete.new.held.queue.spare (Ok m) in
      (elim (subst P c.in-Ok-Pending.field-0-is c.in-Ok-Pending.ensures.refused) [
        | inl less ↦ inl (lacks_after c.worker.inside.home _ _ c.worker.inside.queues.items c.delete.new.held
            c.worker.invariant.own c.delete.ensures.kept.own less)
        | inr lost ↦ inr
            (delete_lost c.self.inside.shared c.args.self.now c.worker.inside.pass c.args.worker.now.pass
            c.delete.new.pass c.args.key c.args.tries c.self.view_is
            (ap (λ (x : WorkerView). x.pass) c.worker.view_is)
            c.know_run.ensures.seen c.know_run-in-Ok-Pending.ensures.seen c.know_run.ensures.fits
            c.delete.ensures.after.same c.delete.ensures.after.past c.requires.own c.in-Ok-Pending.leaf
            (rw c.in-Ok-Pending.field-0-is at c.in-Ok-Pending.ensures.after.stands) lost)
      ])
      );
  alone = λ runs. (
      let P : Deletion → Type 0 = λ m. LacksRoomOr (LosesAfterFlag c.self.inside.shared.layout c.args.tries
      c.args.key c.worker.inside.pass.view.log c.delete.new.pass.view.log) c.delete.new.held.queue.spare (Ok m) in
      (elim (subst P c.in-Ok-Pending.field-0-is c.in-Ok-Pending.ensures.refused) [
        | inl less ↦ inr (lacks_after c.worker.inside.home _ _ c.worker.inside.queues.items c.delete.new.held
            c.worker.invariant.own c.delete.ensures.kept.own less)
        | inr lost ↦ inl
            (delete_finished c.self.inside.shared c.args.self.now c.worker.inside.pass c.args.worker.now.pass
            c.delete.new.pass c.args.key c.args.tries c.self.view_is
            (ap (λ (x : WorkerView). x.pass) c.worker.view_is)
            c.know_run.ensures.seen c.know_run-in-Ok-Pending.ensures.seen c.know_run.ensures.fits
            c.delete.ensures.after.same c.delete.ensures.after.past c.requires.own c.in-Ok-Pending.leaf runs
            (rests_in c.worker.inside.pass c.worker.inside.standing
            (resting_in c.worker.inside.standing (ap (λ (w : WorkerView). w.held) c.worker.view_is
            ∙ c.requires.free) c.in_default.not-Pending) c.worker.invariant.between.stands) lost)
      ])
      );
}

pub returns-in-Pending-clause-takes : goal.returns-in-Pending-clause-takes
returns-in-Pending-clause-takes c = λ values. tt
