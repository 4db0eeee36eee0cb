use Rattle.std.proofs.Common.{sym, subst}
use Rattle.nm_steps.specs.Steps.{PassView}
use Rattle.nm_steps.specs.Values.{HasValues}
use Rattle.nm_tree.specs.Workers.{IsWorker, pending_in, held_in}
use Rattle.nm_tree.proofs.Staying.{sees_more}
use Rattle.nm_tree.proofs.tree.Tree.hear.Goals as goal

pub invariant_of-worker : goal.invariant_of-worker
invariant_of-worker c =
    let w = c.worker.inside in
    let P : PassView → Type 0 = λ p. IsWorker (record {
      pass = p;
      queues = w.queues.items;
      pending = pending_in w.standing;
      held = held_in w.standing;
      fit =
          w.workspace.value.placement;
    }) w.home in
    subst P (sym c.hear.ensures.same) (sees_more c.hear.new.pass _ w.home c.worker.invariant)

pub returns-clause-values : goal.returns-clause-values
returns-clause-values c = λ has. c.hear.ensures.values (subst HasValues (sym c.self.view_is) has)

pub returns-clause-between : goal.returns-clause-between
returns-clause-between c = (invariant_of-worker c).between
