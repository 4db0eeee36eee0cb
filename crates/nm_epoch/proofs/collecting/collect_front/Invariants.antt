use Rattle.std.proofs.Common.{length, ◌≡◌}
use Rattle.nm_steps.specs.Steps.{Continues}
use Rattle.nm_epoch.proofs.OneQueue.{IsCollecting}
use Rattle.nm_epoch.proofs.collecting.collect_front.Given as goal

abbrev pub invariant-loop-node : goal.invariant-loop-node
invariant-loop-node l = record {
  collecting : IsCollecting l.epoch l.fn.held.origin l.fn.pass l.fn.held.queue.items l.pass l.held.queue.items;
  on : Continues l.fn.pass l.pass;
  blocks : l.held.queue.blocks ≡ l.fn.held.queue.blocks;
  origin : l.held.origin ≡ l.fn.held.origin;
  counts : l.held.counts ≡ l.fn.held.counts;
  fit : l.placement ≡ l.fn.placement;
}

abbrev pub decreases-loop-node : goal.decreases-loop-node
decreases-loop-node l = length l.held.queue.items
