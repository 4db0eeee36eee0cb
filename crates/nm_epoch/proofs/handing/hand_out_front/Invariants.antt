use Rattle.std.proofs.Common.{◌≡◌, ◌≤◌, ◌++◌, ℕ, List, length}
use Rattle.std.specs.Prelude.{take}
use Rattle.nm_steps.specs.Steps.{Continues}
use Rattle.nm_epoch.proofs.ReadValues.{IsHanding}
use Rattle.nm_epoch.proofs.handing.hand_out_front.Given as goal

abbrev pub invariant-loop-node : goal.invariant-loop-node
invariant-loop-node l = record {
  handing : (values : List ℕ) × IsHanding l.epoch l.fn.held.origin l.fn.pass l.fn.held.queue.items l.pass
      l.held.queue.items values
      × (take l.written l.out ≡ take l.fn.count l.fn.out ++ values);
  on : Continues l.fn.pass l.pass;
  more : l.fn.count ≤ l.written;
  room : l.written ≤ length l.out;
  blocks : l.held.queue.blocks ≡ l.fn.held.queue.blocks;
  origin : l.held.origin ≡ l.fn.held.origin;
  counts : l.held.counts ≡ l.fn.held.counts;
  fit : l.placement ≡ l.fn.placement;
}

abbrev pub decreases-loop-node : goal.decreases-loop-node
decreases-loop-node l = length l.held.queue.items
