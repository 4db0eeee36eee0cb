use Rattle.std.proofs.Common.{rules, ap}
use Rattle.nm_steps.specs.Steps.{PassView}
use Rattle.nm_steps.proofs.Seeing.{seen_by_turn}
use Rattle.nm_tree.proofs.Quiet.{left}
use Rattle.nm_tree.proofs.Staying.{stays, labelled}
use Rattle.nm_tree.proofs.tree.Tree.unpin.Goals as goal

pub invariant_of-worker : goal.invariant_of-worker
invariant_of-worker c =
    stays _ c.worker.inside.home c.leave.new.pass _ _ c.worker.invariant (search rules)
    (left _ _ (ap (λ (x : PassView). x.view.log) c.leave.ensures.took.step)) c.leave.ensures.hands.private
    (c.leave.ensures.hands.ledgers (labelled c.worker.inside.pass _ _ c.worker.invariant.between.stands))
    c.leave.ensures.rests

pub returns : goal.returns
returns c = record {
  step = search rules;
  past = (let seen = seen_by_turn _ _ _ _ c.leave.ensures.took.past in search (rules, seen));
  queues = search rules;
  pending = search rules;
  held = search rules;
  fit = search rules;
}
