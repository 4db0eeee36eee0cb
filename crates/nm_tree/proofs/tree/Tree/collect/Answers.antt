use Rattle.std.proofs.Common.{◌≡◌, List, refl, sym, ap, subst, ◌∙◌}
use Rattle.std.specs.Vec.{with_items}
use Rattle.std.proofs.lemmas.List.{with_items_is}
use Rattle.nm_steps.specs.Steps.{TreeView}
use Rattle.nm_epoch.specs.declared.collecting.HeldQueue.{HeldQueue}
use Rattle.nm_epoch.specs.Collecting.{Collects, ripe_of}
use Rattle.nm_tree.specs.Calls.{LeavesCollect}
use Rattle.nm_walks.specs.declared.workspace.Workspace.{Workspace}
use Rattle.nm_tree.specs.Workers.{WorkerView, IsWorker, held_in, pending_in}
use Rattle.nm_tree.proofs.Freeing.{as_many_queues, collected, have_lost}
use Rattle.nm_tree.proofs.RunningTurns.{collected_in_grace}
use Rattle.nm_tree.proofs.tree.Tree.collect.Goals as goal

-- the collection is one of all queues
does : (c : goal.After-know_run-2) → Collects c.self.inside.shared.layout.nodes c.worker.inside.pass
    c.collect-collected.new.pass c.worker.inside.queues.items c.collect-collected.new.queues c.collect-collected.result
does c =
    subst (λ (hs : List HeldQueue). Collects c.self.inside.shared.layout.nodes c.worker.inside.pass
    c.collect-collected.new.pass hs c.collect-collected.new.queues c.collect-collected.result)
    c.as_mut_slice.ensures.value
    c.collect-collected.ensures.after

-- which are as many as before
left : (c : goal.After-know_run-2) → (with_items c.worker.inside.queues c.collect-collected.new.queues).items
    ≡ c.collect-collected.new.queues
left c =
    with_items_is c.worker.inside.queues c.collect-collected.new.queues
    (sym (c.worker.inside.queues.ok.0 ∙ as_many_queues c.worker.inside.queues.items c.collect-collected.new.queues
    (have_lost c.collect-collected.result.epoch c.worker.inside.queues.items c.collect-collected.new.queues
    (does c).lost)))

-- the worker as it was, and with queues
before : goal.After-know_run-2 → WorkerView
before c = record {
  pass = c.worker.inside.pass;
  queues = c.worker.inside.queues.items;
  pending = pending_in
      c.worker.inside.standing;
  held = held_in c.worker.inside.standing;
  fit = c.worker.inside.workspace.value.placement;
}

after : goal.After-know_run-2 → List HeldQueue → WorkerView
after c hs = record {
  pass = c.collect-collected.new.pass;
  queues = hs;
  pending = pending_in
      c.worker.inside.standing;
  held = held_in c.worker.inside.standing;
  fit = c.collect-collected.new.placement;
}

pub invariant_of-worker : goal.invariant_of-worker
unfolding after
invariant_of-worker c =
    subst (λ (hs : List HeldQueue). IsWorker (after c hs) c.worker.inside.home) (sym (left c))
    (collected _ c.worker.inside.home c.collect-collected.new.pass c.collect-collected.new.queues c.worker.invariant
    (record { fits = c.know_run.ensures.fits; run = c.know_run.ensures.run }) (does c))

pub returns : goal.returns
unfolding before after
returns c =
    let d = does c in
    let is : LeavesCollect c.self.inside.shared.layout.nodes (before c) (after c c.collect-collected.new.queues)
    c.collect-collected.result = record {
      same = d.on.same;
      past = d.on.past;
      did = d.part;
      freed = d.freed;
      lost = d.lost;
      grace = collected_in_grace c.collect-collected.new.pass.view d.part.0
          (ripe_of c.collect-collected.result.epoch c.worker.inside.queues.items) c.know_run-2.ensures.fits
          c.know_run-2.ensures.seen d.part.2;
      blocks = d.blocks;
      newest = d.newest;
      place = (refl, refl);
      steps = d.steps;
      fit = c.collect-collected.ensures.fit ∙ ap (λ (w : Workspace). w.placement) c.deref_mut.ensures.value;
    } in
    subst (λ (b : TreeView). LeavesCollect b.layout.nodes c.args.worker.now
    (after c (with_items c.worker.inside.queues c.collect-collected.new.queues).items) c.collect-collected.result)
    c.self.view_is
    (subst (λ (w : WorkerView). LeavesCollect c.self.inside.shared.layout.nodes w
    (after c (with_items c.worker.inside.queues c.collect-collected.new.queues).items) c.collect-collected.result)
    c.worker.view_is
    (subst (λ (hs : List HeldQueue). LeavesCollect c.self.inside.shared.layout.nodes (before c) (after c hs)
    c.collect-collected.result) (sym (left c)) is))
