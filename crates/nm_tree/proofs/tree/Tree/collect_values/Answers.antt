use Rattle.std.proofs.Common.{◌≡◌, ℕ, Bool, List, length, refl, sym, ap, subst, ◌∙◌}
use Rattle.std.specs.Prelude.{nat_lt, take}
use Rattle.std.specs.Vec.{with_items}
use Rattle.std.proofs.lemmas.List.{with_items_is}
use Rattle.nm_steps.specs.Steps.{TreeView}
use Rattle.nm_epoch.specs.declared.collecting.HeldQueue.{HeldQueue}
use Rattle.nm_epoch.specs.Handing.{CollectsValues}
use Rattle.nm_tree.specs.Handing.{LeavesCollectValues}
use Rattle.nm_walks.specs.declared.workspace.Workspace.{Workspace}
use Rattle.nm_tree.specs.Workers.{WorkerView, IsWorker, held_in, pending_in}
use Rattle.nm_tree.proofs.Freeing.{as_many_queues, gives_back, handed_out, have_handed}
use Rattle.nm_tree.proofs.RunningTurns.{collected_in_grace}
use Rattle.nm_tree.proofs.tree.Tree.collect_values.Goals as goal

-- the values that are in `out` afterwards, and whether it has room for one more
abbrev values : goal.After-know_run-2 → List ℕ
values c = take c.collect_values-handed.result.values c.collect_values-handed.new.out

abbrev room : goal.After-know_run-2 → Bool
room c = nat_lt c.collect_values-handed.result.values (length c.collect_values-handed.new.out)

-- the collection is one of all queues
does : (c : goal.After-know_run-2) → CollectsValues c.self.inside.shared.layout.nodes (room c) c.worker.inside.pass
    c.collect_values-handed.new.pass c.worker.inside.queues.items c.collect_values-handed.new.queues (values c)
    c.collect_values-handed.result
does c =
    subst (λ (hs : List HeldQueue). CollectsValues c.self.inside.shared.layout.nodes (room c) c.worker.inside.pass
    c.collect_values-handed.new.pass hs c.collect_values-handed.new.queues (values c)
    c.collect_values-handed.result) c.as_mut_slice.ensures.value
    c.collect_values-handed.ensures.after

-- which are as many as before
left : (c : goal.After-know_run-2) → (with_items c.worker.inside.queues c.collect_values-handed.new.queues).items
    ≡ c.collect_values-handed.new.queues
left c =
    with_items_is c.worker.inside.queues c.collect_values-handed.new.queues
    (sym (c.worker.inside.queues.ok.0 ∙ as_many_queues c.worker.inside.queues.items
    c.collect_values-handed.new.queues (have_handed c.collect_values-handed.result.epoch c.worker.inside.pass
    c.collect_values-handed.new.pass c.worker.inside.queues.items c.collect_values-handed.new.queues (does c).freed
    (values c) (does c).handed)))

-- the worker as it was, and with queues
before : goal.After-know_run-2 → WorkerView
before c = record {
  pass = c.worker.inside.pass;
  queues = c.worker.inside.queues.items;
  pending = pending_in
      c.worker.inside.standing;
  held = held_in c.worker.inside.standing;
  fit = c.worker.inside.workspace.value.placement;
}

after : goal.After-know_run-2 → List HeldQueue → WorkerView
after c hs = record {
  pass = c.collect_values-handed.new.pass;
  queues = hs;
  pending = pending_in
      c.worker.inside.standing;
  held = held_in c.worker.inside.standing;
  fit = c.collect_values-handed.new.placement;
}

pub invariant_of-worker : goal.invariant_of-worker
unfolding after
invariant_of-worker c =
    subst (λ (hs : List HeldQueue). IsWorker (after c hs) c.worker.inside.home) (sym (left c))
    (handed_out _ c.worker.inside.home c.collect_values-handed.new.pass c.collect_values-handed.new.queues
    c.worker.invariant (record { fits = c.know_run.ensures.fits; run = c.know_run.ensures.run }) (does c))

pub returns-clause-leaves : goal.returns-clause-leaves
unfolding before after
returns-clause-leaves c =
    let d = does c in
    let is : LeavesCollectValues c.self.inside.shared.layout.nodes (room c) (before c)
    (after c c.collect_values-handed.new.queues) (values c) c.collect_values-handed.result = record {
      same = d.on.same;
      past = d.on.past;
      freed = d.freed;
      handed = gives_back c.collect_values-handed.result.epoch c.worker.inside.pass c.collect_values-handed.new.pass
          c.worker.inside.queues.items c.collect_values-handed.new.queues d.freed
          (values c) c.collect_values-handed.ensures.back c.collect_values-handed.ensures.inner d.handed;
      grace = collected_in_grace c.collect_values-handed.new.pass.view d.part.0 d.freed c.know_run-2.ensures.fits
          c.know_run-2.ensures.seen d.part.2;
      did = d.part;
      all = d.all;
      blocks = d.blocks;
      newest = d.newest;
      place = (refl, refl);
      steps = d.steps;
      fit = c.collect_values-handed.ensures.fit ∙ ap (λ (w : Workspace). w.placement) c.deref_mut.ensures.value;
    } in
    subst (λ (b : TreeView). LeavesCollectValues b.layout.nodes (room c) c.args.worker.now
    (after c (with_items c.worker.inside.queues c.collect_values-handed.new.queues).items) (values c)
    c.collect_values-handed.result) c.self.view_is
    (subst (λ (w : WorkerView). LeavesCollectValues c.self.inside.shared.layout.nodes (room c) w
    (after c (with_items c.worker.inside.queues c.collect_values-handed.new.queues).items) (values c)
    c.collect_values-handed.result) c.worker.view_is
    (subst (λ (hs : List HeldQueue). LeavesCollectValues c.self.inside.shared.layout.nodes (room c) (before c)
    (after c hs) (values c) c.collect_values-handed.result) (sym (left c)) is))
