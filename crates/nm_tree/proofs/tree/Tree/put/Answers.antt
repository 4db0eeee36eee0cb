use Rattle.std.proofs.Common.{rules, inr, ap, subst, sym, ◌∙◌, arith}
use Rattle.std.specs.Prelude.{Result, IsErrOf, slice_set}
use Rattle.nm_steps.proofs.Seeing.{seen_all}
use Rattle.nm_steps.specs.Steps.{PassView, TreeView}
use Rattle.nm_walks.specs.declared.workspace.Workspace.{Workspace}
use Rattle.nm_calls.specs.declared.fault.CallFault.{CallFault}
use Rattle.nm_calls.specs.declared.fault.CallFault.TheVariants as fault
use Rattle.nm_puts.specs.declared.putting.PutOutcome.{PutOutcome}
use Rattle.nm_puts.specs.Puts.{PutDid}
use Rattle.nm_tree.specs.Workers.{WorkerView, held_in, pending_in}
use Rattle.nm_tree.proofs.Answered.{insert_fails, put_told}
use Rattle.nm_tree.proofs.Changing.{kept_there, changed, others_kept}
use Rattle.nm_tree.proofs.FullPuts.{put_found_no_slot}
use Rattle.nm_tree.proofs.Interfered.{put_alone, put_interfered}
use Rattle.nm_tree.proofs.QueueLists.{lacks_after, stands_within, room_after}
use Rattle.nm_tree.proofs.Staying.{resting_in, rests_in, rests_as, free_in}
use Rattle.nm_tree.proofs.Unfreed.{freed_still}
use Rattle.nm_tree.proofs.UnfreedPuts.{put_unfreed}
use Rattle.nm_tree.proofs.Untouched.{put_pending}
use Rattle.nm_tree.proofs.tree.Tree.put.Goals as goal

pub returns-in-Pending : goal.returns-in-Pending
returns-in-Pending c = record {
  leaves = put_pending c.args.self.now.layout c.args.tries c.args.key c.args.worker.now (search rules)
      c.requires.call.free c.args.condition c.args.value;
}

pub index_mut-own-requires : goal.index_mut-own-requires
index_mut-own-requires c = omega (
  arith,
  stands_within c.worker.inside.home _ c.worker.inside.queues.items
      c.worker.invariant.own,
  c.worker.inside.queues.ok.0,
)

pub put-done-requires-clause-rests : goal.put-done-requires-clause-rests
put-done-requires-clause-rests c =
    rests_in c.worker.inside.pass c.worker.inside.standing
    (resting_in c.worker.inside.standing (ap (λ (w : WorkerView). w.held) c.worker.view_is ∙ c.requires.call.free)
    c.in_default.not-Pending) c.worker.invariant.between.stands

pub put-done-requires-clause-kept : goal.put-done-requires-clause-kept
put-done-requires-clause-kept c = kept_there _ c.worker.inside.home _ c.worker.invariant
    c.index_mut-own.ensures.value

pub invariant_of-worker : goal.invariant_of-worker
invariant_of-worker c =
    changed _ c.worker.inside.home c.put-done.new.pass _ _ c.put-done.new.held c.worker.invariant
    c.put-done.ensures.after.same c.put-done.ensures.kept
    c.put-done.ensures.after.ledgers.others c.put-done.ensures.after.private
    (rests_as c.put-done.new.pass c.worker.inside.standing
    (resting_in c.worker.inside.standing (ap (λ (w : WorkerView). w.held) c.worker.view_is ∙ c.requires.call.free)
    c.in_default.not-Pending) c.put-done.ensures.after.rests)
    (_, c.index_mut-own.ensures.value, c.put-done.ensures.blocks)

-- what the put did, by the workspace of the worker
did : (c : goal.After-know_run-2) → PutDid c.worker.inside.workspace.value.placement c.self.inside.shared.layout
    c.args.tries c.args.condition c.args.key c.worker.inside.pass.view.log c.put-done.new.pass.view.log
    c.put-done.result
did c =
    subst (λ (w : Workspace). PutDid w.placement c.self.inside.shared.layout c.args.tries c.args.condition
    c.args.key c.worker.inside.pass.view.log c.put-done.new.pass.view.log c.put-done.result) c.deref_mut.ensures.value
    c.put-done.ensures.after.did

pub returns : goal.returns
returns c =
    let L = c.self.inside.shared.layout in
    let tries = c.args.tries in
    let when = c.args.condition in
    let k = c.args.key in
    let s = c.worker.inside.standing in
    let done = c.put-done in
    let free = free_in s (resting_in s (ap (λ (w : WorkerView). w.held) c.worker.view_is ∙ c.requires.call.free)
    c.in_default.not-Pending) in
    let fit = c.worker.inside.workspace.value.placement in
    let lost = λ (is : IsErrOf done.result fault.Busy). subst (λ (r : Result PutOutcome CallFault).
    PutDid fit L tries when k c.worker.inside.pass.view.log done.new.pass.view.log r) is (did c) in
    let w : WorkerView = record {
      pass = c.worker.inside.pass;
      queues = c.worker.inside.queues.items;
      pending = pending_in s;
      held = held_in s;
      fit = fit;
    } in
    let z : WorkerView = record {
      pass = done.new.pass;
      queues = slice_set c.worker.inside.queues.items c.worker.inside.home done.new.held;
      pending = pending_in s;
      held = held_in s;
      fit = done.new.workspace.placement;
    } in
    let told = put_told L tries k w z free when done.result
    (λ full. put_found_no_slot L tries when k w z
    (ap (λ (p : PassView). p.view.layout) done.ensures.after.same
    ∙ (ap (λ (x : WorkerView). x.pass.view.layout) c.worker.view_is
    ∙ (c.requires.call.own.layout ∙ ap (λ (b : TreeView). b.layout) (sym c.self.view_is))))
    c.know_run.ensures.seen c.know_run-2.ensures.seen done.ensures.after.same done.ensures.after.past
    (subst (λ (r : Result PutOutcome CallFault). PutDid fit L tries when k w.pass.view.log z.pass.view.log r)
    full (did c)))
    (λ none'. lacks_after c.worker.inside.home _ _ c.worker.inside.queues.items done.new.held
    c.worker.invariant.own done.ensures.kept.own (done.ensures.refused none')) (did c) in
    record {
      leaves = record {
        says = record {
          same = search rules;
          past = search (rules, seen_all);
          stores = search rules;
          told = rw (← c.worker.view_is) told;
          map = rw (← c.worker.view_is) done.ensures.after.map;
          moment = rw (← c.worker.view_is) done.ensures.after.moment;
          won = search rules;
          steps = search rules;
          frees = rw (← c.worker.view_is) (freed_still w.pass.view.log z.pass.view.log
              (put_unfreed fit L k tries when w.pass.view.log z.pass.view.log done.result (did c)));
          queues = others_kept _ _ c.worker.inside.home done.new.pass done.new.held c.worker.view_is
              c.worker.invariant.own done.ensures.kept.own done.ensures.after.same;
          blocks = rw (← c.worker.view_is) (room_after c.worker.inside.home _ c.worker.inside.queues.items _
              done.new.held c.worker.invariant.own c.index_mut-own.ensures.value done.ensures.blocks);
          held = search rules;
          fit = search rules;
        };
        did = rw (← c.worker.view_is, ← c.self.view_is) (inr (free, did c));
        interfered = λ is. put_interfered c.self.inside.shared c.args.self.now c.worker.inside.pass
            c.args.worker.now.pass done.new.pass k tries c.self.view_is
            (ap (λ (x : WorkerView). x.pass) c.worker.view_is) c.know_run.ensures.seen c.know_run-2.ensures.seen
            c.know_run.ensures.fits done.ensures.after.same done.ensures.after.past c.requires.call.own fit when
            (lost is);
        alone = λ runs. insert_fails tries c.args.worker.now z done.result (rw (← c.worker.view_is) told)
            (λ is. put_alone c.self.inside.shared c.args.self.now c.worker.inside.pass c.args.worker.now.pass
            done.new.pass k tries c.self.view_is (ap (λ (x : WorkerView). x.pass) c.worker.view_is)
            c.know_run.ensures.seen c.know_run-2.ensures.seen c.know_run.ensures.fits done.ensures.after.same
            done.ensures.after.past c.requires.call.own fit when runs
            (rests_in c.worker.inside.pass s
            (resting_in s (ap (λ (w : WorkerView). w.held) c.worker.view_is ∙ c.requires.call.free)
            c.in_default.not-Pending) c.worker.invariant.between.stands) (lost is));
      };
    }
