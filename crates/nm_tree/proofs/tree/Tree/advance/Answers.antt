use Rattle.std.proofs.Common.{rules}
use Rattle.nm_steps.proofs.Seeing.{seen_all}
use Rattle.nm_tree.proofs.Quiet.{advanced}
use Rattle.nm_tree.proofs.Staying.{stays, stands_still, labelled}
use Rattle.nm_tree.proofs.tree.Tree.advance.Goals as goal

pub invariant_of-worker : goal.invariant_of-worker
invariant_of-worker c =
    let was = c.worker.invariant.between.stands in
    stays _ c.worker.inside.home c.advance.new.pass _ _ c.worker.invariant c.advance.ensures.after.on.same
    (advanced _ _ _ _ _ _ c.advance.ensures.part) c.advance.ensures.after.hands.private
    (c.advance.ensures.after.hands.ledgers (labelled c.worker.inside.pass _ _ was))
    (stands_still c.worker.inside.pass c.advance.new.pass _ _ was c.advance.ensures.after.settles
    c.advance.ensures.after.on.run)

pub returns : goal.returns
returns c = record {
  same = search rules;
  past = search (rules, seen_all);
  did = search rules;
  place = search rules;
  queues = search rules;
  steps = search rules;
  fit = search rules;
}
