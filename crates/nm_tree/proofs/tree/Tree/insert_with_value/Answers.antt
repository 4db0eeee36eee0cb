use Rattle.std.proofs.Common.{rules, Bool, ap, refl, subst, sym, ◌∙◌, arith}
use Rattle.std.specs.Prelude.{Result, slice_set}
use Rattle.nm_steps.proofs.Seeing.{seen_all}
use Rattle.nm_steps.specs.Steps.{PassView, TreeView}
use Rattle.nm_walks.specs.declared.workspace.Workspace.{Workspace}
use Rattle.nm_tree.specs.Workers.{WorkerView, held_in, pending_in}
use Rattle.nm_tree.proofs.FullPools.{found_no_slot}
use Rattle.nm_tree.proofs.QueueLists.{lacks_after, stands_within, room_after}
use Rattle.nm_tree.proofs.Staying.{resting_in, rests_in, rests_as, free_in}
use Rattle.nm_tree.proofs.Interfered.{insert_interfered, insert_alone}
use Rattle.nm_tree.proofs.Answered.{insert_fails, insert_told, has_inserted}
use Rattle.nm_tree.proofs.Changing.{kept_there, changed, others_kept}
use Rattle.nm_calls.specs.declared.fault.CallFault.{CallFault}
use Rattle.nm_calls.specs.Inserts.{InsertDid}
use Rattle.nm_tree.proofs.Telling.{inserted_so}
use Rattle.nm_tree.proofs.Untouched.{insert_pending}
use Rattle.nm_tree.proofs.tree.Tree.insert_with_value.Goals as goal

pub returns-in-Pending-clause-leaves : goal.returns-in-Pending-clause-leaves
returns-in-Pending-clause-leaves c = insert_pending c.args.self.now.layout c.args.tries c.args.key c.args.worker.now
    (search rules) c.requires.free

pub returns-in-Pending-clause-says : goal.returns-in-Pending-clause-says
returns-in-Pending-clause-says c = (returns-in-Pending-clause-leaves c).says

pub index_mut-own-requires : goal.index_mut-own-requires
index_mut-own-requires c = omega (
  arith,
  stands_within c.worker.inside.home _ c.worker.inside.queues.items
      c.worker.invariant.own,
  c.worker.inside.queues.ok.0,
)

pub insert-answer-requires-clause-rests : goal.insert-answer-requires-clause-rests
insert-answer-requires-clause-rests c =
    rests_in c.worker.inside.pass c.worker.inside.standing
    (resting_in c.worker.inside.standing (ap (λ (w : WorkerView). w.held) c.worker.view_is ∙ c.requires.free)
    c.in_default.not-Pending) c.worker.invariant.between.stands

pub insert-answer-requires-clause-kept : goal.insert-answer-requires-clause-kept
insert-answer-requires-clause-kept c = kept_there _ c.worker.inside.home _ c.worker.invariant
    c.index_mut-own.ensures.value

pub invariant_of-worker : goal.invariant_of-worker
invariant_of-worker c =
    changed _ c.worker.inside.home c.insert-answer.new.pass _ _ c.insert-answer.new.held c.worker.invariant
    c.insert-answer.ensures.after.same c.insert-answer.ensures.kept
    c.insert-answer.ensures.after.ledgers.others c.insert-answer.ensures.after.private
    (rests_as c.insert-answer.new.pass c.worker.inside.standing
    (resting_in c.worker.inside.standing (ap (λ (w : WorkerView). w.held) c.worker.view_is ∙ c.requires.free)
    c.in_default.not-Pending) c.insert-answer.ensures.after.rests)
    (_, c.index_mut-own.ensures.value, c.insert-answer.ensures.blocks)

-- what the insert did, by the workspace of the worker
did : (c : goal.After-know_run-2) → InsertDid c.worker.inside.workspace.value.placement c.self.inside.shared.layout
    c.args.tries c.args.key c.worker.inside.pass.view.log c.insert-answer.new.pass.view.log c.insert-answer.result
did c =
    subst (λ (w : Workspace). InsertDid w.placement c.self.inside.shared.layout c.args.tries c.args.key
    c.worker.inside.pass.view.log c.insert-answer.new.pass.view.log c.insert-answer.result) c.deref_mut.ensures.value
    c.insert-answer.ensures.after.did

pub returns-clause-says : goal.returns-clause-says
returns-clause-says c = record {
  same = search rules;
  past = search (rules, seen_all);
  told = rw (← c.worker.view_is) (insert_told c.self.inside.shared.layout c.args.tries c.args.key _ _
      (free_in c.worker.inside.standing (resting_in c.worker.inside.standing
      (ap (λ (w : WorkerView). w.held) c.worker.view_is ∙ c.requires.free) c.in_default.not-Pending))
      c.insert-answer.result
      (λ full. found_no_slot c.self.inside.shared.layout c.args.tries c.args.key
      (record {
        pass = c.worker.inside.pass;
        queues = c.worker.inside.queues.items;
        pending = pending_in
            c.worker.inside.standing;
        held = held_in c.worker.inside.standing;
        fit =
            c.worker.inside.workspace.value.placement;
      })
      (record {
        pass = c.insert-answer.new.pass;
        queues = slice_set c.worker.inside.queues.items c.worker.inside.home
            c.insert-answer.new.held;
        pending = pending_in c.worker.inside.standing;
        held = held_in
            c.worker.inside.standing;
        fit = c.insert-answer.new.workspace.placement;
      })
      (ap (λ (p : PassView). p.view.layout) c.insert-answer.ensures.after.same
      ∙ (ap (λ (x : WorkerView). x.pass.view.layout) c.worker.view_is
      ∙ (c.requires.own.layout ∙ ap (λ (b : TreeView). b.layout) (sym c.self.view_is))))
      c.know_run.ensures.seen c.know_run-2.ensures.seen c.insert-answer.ensures.after.same
      c.insert-answer.ensures.after.past
      (subst (λ (r : Result Bool CallFault). InsertDid c.worker.inside.workspace.value.placement
      c.self.inside.shared.layout c.args.tries c.args.key c.worker.inside.pass.view.log
      c.insert-answer.new.pass.view.log r) full (did c)))
      (λ none'. lacks_after c.worker.inside.home _ _ c.worker.inside.queues.items c.insert-answer.new.held
      c.worker.invariant.own c.insert-answer.ensures.kept.own (c.insert-answer.ensures.refused none')) (did c));
  moment = search rules;
  won = search rules;
  steps = search rules;
  queues = others_kept _ _ c.worker.inside.home c.insert-answer.new.pass c.insert-answer.new.held c.worker.view_is
      c.worker.invariant.own c.insert-answer.ensures.kept.own c.insert-answer.ensures.after.same;
  blocks = rw (← c.worker.view_is) (room_after c.worker.inside.home _ c.worker.inside.queues.items _
      c.insert-answer.new.held c.worker.invariant.own c.index_mut-own.ensures.value c.insert-answer.ensures.blocks);
  held = search rules;
  fit = search rules;
}

pub returns-clause-leaves : goal.returns-clause-leaves
returns-clause-leaves c = record {
  says = returns-clause-says c;
  did = inserted_so _ _ c.args.tries c.args.key _ _ _ c.insert-answer.result _ c.self.view_is c.worker.view_is refl
      (has_inserted _ c.args.tries c.args.key _ _ (free_in c.worker.inside.standing
      (resting_in c.worker.inside.standing (ap (λ (w : WorkerView). w.held) c.worker.view_is ∙ c.requires.free)
      c.in_default.not-Pending)) c.insert-answer.result (did c));
  interfered = λ is. insert_interfered c.self.inside.shared c.args.self.now c.worker.inside.pass
      c.args.worker.now.pass c.insert-answer.new.pass c.args.key c.args.tries c.self.view_is
      (ap (λ (x : WorkerView). x.pass) c.worker.view_is)
      c.know_run.ensures.seen c.know_run-2.ensures.seen c.know_run.ensures.fits c.insert-answer.ensures.after.same
      c.insert-answer.ensures.after.past c.requires.own _
      (subst (λ (r : Result Bool CallFault). InsertDid c.worker.inside.workspace.value.placement
      c.self.inside.shared.layout c.args.tries c.args.key c.worker.inside.pass.view.log
      c.insert-answer.new.pass.view.log r) is (did c));
  alone = λ runs. (
      insert_fails c.args.tries _ _ c.insert-answer.result (returns-clause-says c).told
      (λ is. insert_alone c.self.inside.shared c.args.self.now c.worker.inside.pass c.args.worker.now.pass
      c.insert-answer.new.pass c.args.key c.args.tries c.self.view_is
      (ap (λ (x : WorkerView). x.pass) c.worker.view_is)
      c.know_run.ensures.seen c.know_run-2.ensures.seen c.know_run.ensures.fits c.insert-answer.ensures.after.same
      c.insert-answer.ensures.after.past c.requires.own _ runs
      (rests_in c.worker.inside.pass c.worker.inside.standing
      (resting_in c.worker.inside.standing (ap (λ (w : WorkerView). w.held) c.worker.view_is ∙ c.requires.free)
      c.in_default.not-Pending) c.worker.invariant.between.stands)
      (subst (λ (r : Result Bool CallFault). InsertDid c.worker.inside.workspace.value.placement
      c.self.inside.shared.layout c.args.tries c.args.key c.worker.inside.pass.view.log
      c.insert-answer.new.pass.view.log r) is (did c)))
      );
}

pub returns-in-Pending-clause-puts : goal.returns-in-Pending-clause-puts
returns-in-Pending-clause-puts c = λ _ is. absurd (let no = is in cc)

pub returns-clause-puts : goal.returns-clause-puts
returns-clause-puts c = rw (← c.worker.view_is, ← c.self.view_is) c.insert-answer.ensures.put

pub returns-in-Pending-clause-finds : goal.returns-in-Pending-clause-finds
returns-in-Pending-clause-finds c = λ _ is. absurd (let no = is in cc)

pub returns-clause-finds : goal.returns-clause-finds
returns-clause-finds c = rw (← c.worker.view_is, ← c.self.view_is, c.deref.ensures) c.insert-answer.ensures.finds
