use Rattle.std.proofs.Common.{rules}
use Rattle.nm_steps.proofs.Seeing.{seen_all}
use Rattle.nm_tree.proofs.Quiet.{watched}
use Rattle.nm_tree.proofs.Staying.{stays, stands_still, labelled}
use Rattle.nm_tree.proofs.tree.Tree.behind.Goals as goal

pub invariant_of-worker : goal.invariant_of-worker
invariant_of-worker c =
    let was = c.worker.invariant.between.stands in
    stays _ c.worker.inside.home c.behind.new.pass _ _ c.worker.invariant c.behind.ensures.after.on.same
    (watched _ _ _ _ _ _ _ c.behind.ensures.part) c.behind.ensures.after.hands.private
    (c.behind.ensures.after.hands.ledgers (labelled c.worker.inside.pass _ _ was))
    (stands_still c.worker.inside.pass c.behind.new.pass _ _ was c.behind.ensures.after.settles
    c.behind.ensures.after.on.run)

pub returns : goal.returns
returns c = record {
  same = search rules;
  past = search (rules, seen_all);
  did = search rules;
  place = search rules;
  queues = search rules;
  steps = search rules;
  fit = search rules;
}
