use Rattle.std.proofs.Common.{◌≡◌, List, length, sym, ap, ◌∙◌, subst, arith}
use Rattle.nm_epoch.specs.declared.collecting.HeldQueue.{HeldQueue}
use Rattle.nm_tree.specs.Resigning.{merged}
use Rattle.nm_tree.specs.Workers.{WorkerView, IsWorker, pending_in, held_in}
use Rattle.nm_tree.proofs.Merging.{merged_with_none}
use Rattle.nm_tree.proofs.United.{few_own}
use Rattle.nm_tree.proofs.resigning.Heir.of.Goals as goal

pub take_over-requires : goal.take_over-requires
take_over-requires c = record {
  room =
      let is = subst (λ (w : WorkerView). IsWorker w c.worker.inside.home) c.worker.view_is c.worker.invariant in
      let few = few_own c.args.worker _ is (record { fits = c.know_run.ensures.fits; run = c.know_run.ensures.run }) in
      let same = ap (λ (w : WorkerView). length w.queues) c.worker.view_is in
      let none = ap (λ (l : List HeldQueue). length l) c.requires.empty in
      omega (arith, few, same, none, c.requires.room);
}

-- the queues are as they were
as_they_were : (c : goal.After-take_over) → c.take_over.new.queues.items ≡ c.worker.inside.queues.items
as_they_were c =
    c.take_over.ensures.queues
    ∙ (ap (λ (l : List HeldQueue). merged l c.worker.inside.queues.items) c.requires.empty
    ∙ merged_with_none c.worker.inside.queues.items c.worker.invariant.between.ascend)

pub invariant_of-result : goal.invariant_of-result
invariant_of-result c =
    let w = c.worker.inside in
    let P : List HeldQueue → Type 0 = λ l. IsWorker
    (record {
      pass = w.pass;
      queues = l;
      pending = pending_in w.standing;
      held = held_in w.standing;
      fit =
          w.workspace.value.placement;
    }) w.home in (
      subst P (sym (as_they_were c)) c.worker.invariant,
      (let same = ap (λ (w : WorkerView). w.pass.view.layout.workers) c.worker.view_is in
          omega (arith, same, c.requires.room, c.take_over.ensures.capacity)),
    )

pub returns : goal.returns
returns c =
    let w = c.worker.inside in
    ap (λ (l : List HeldQueue). record {
      pass = w.pass;
      queues = l;
      pending = pending_in w.standing;
      held = held_in
          w.standing;
      fit = w.workspace.value.placement;
    }) (as_they_were c)
    ∙ c.worker.view_is
