use Rattle.std.proofs.Common.{◌≡◌, ◌++◌, List, length}
use Rattle.std.specs.Prelude.{vec_capacity}
use Rattle.nm_epoch.specs.declared.collecting.HeldQueue.{HeldQueue}
use Rattle.nm_tree.specs.Resigning.{merged}
use Rattle.nm_tree.proofs.resigning.take_over.Given as goal

abbrev pub invariant-loop-queue : goal.invariant-loop-queue
invariant-loop-queue l = record {
  taken : (gs : List HeldQueue) × (l.initial.more.items ≡ l.more.items ++ gs)
      × (l.queues.items ≡ merged l.initial.queues.items gs);
  capacity : vec_capacity l.queues ≡ vec_capacity l.initial.queues;
}

abbrev pub decreases-loop-queue : goal.decreases-loop-queue
decreases-loop-queue l = length l.more.items
