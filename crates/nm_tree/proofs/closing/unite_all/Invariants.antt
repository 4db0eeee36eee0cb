use Rattle.std.proofs.Common.{◌≡◌, ◌++◌, ◌∷◌, List, length}
use Rattle.std.specs.Prelude.{All}
use Rattle.nm_steps.specs.Steps.{HasSeen, IsOf}
use Rattle.nm_tree.specs.Workers.{WorkerView}
use Rattle.nm_tree.specs.Closing.{AreAllOf, StandsForAll, all_merged}
use Rattle.nm_tree.proofs.Closed.{GoesOnFromAll, StoresGoOnFromAll}
use Rattle.nm_tree.proofs.closing.unite_all.Given as goal

abbrev pub invariant-loop-leaver : goal.invariant-loop-leaver
invariant-loop-leaver l = record {
  own : IsOf l.shared l.heir.pass;
  left : AreAllOf l.shared l.workers.items;
  united : (u : WorkerView) × (us : List WorkerView)
      × (l.fn.workers.items ≡ l.workers.items ++ u ∷ us)
      × StandsForAll (u ∷ us) l.heir.pass.view
      × GoesOnFromAll l.heir.pass.view.past (u ∷ us)
      × StoresGoOnFromAll l.heir.pass.view.stores (u ∷ us)
      × All (λ (w : WorkerView). HasSeen w.pass.view) (u ∷ us)
      × (l.heir.queues ≡ all_merged (u ∷ us));
}

abbrev pub decreases-loop-leaver : goal.decreases-loop-leaver
decreases-loop-leaver l = length l.workers.items
