use Rattle.std.proofs.Common.{arith}
use Rattle.nm_tree.proofs.Ledgers.{all_told, own_told}
use Rattle.nm_tree.proofs.QueueLists.{stands_within}
use Rattle.nm_tree.proofs.worker.Worker.ledger.Goals as goal

pub index-requires : goal.index-requires
index-requires c = omega (
  arith,
  stands_within c.self.inside.home _ c.self.inside.queues.items c.self.invariant.own,
  c.self.inside.queues.ok.0,
)

pub returns : goal.returns
returns c =
    let p = c.self.inside.pass in
    rw (c.of.ensures, ← c.self.view_is)
    (own_told p.view c.self.inside.home p.view.number c.self.inside.queues.items c.index.result.now c.self.invariant.own
    (all_told p (record { fits = c.know_run.ensures.fits; run = c.know_run.ensures.run }) c.self.inside.queues.items
    c.self.invariant.counted c.self.invariant.between.queues) c.index.ensures)
