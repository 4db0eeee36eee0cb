use Rattle.std.proofs.Common.{◌≡◌, ◌≤◌, ◌*◌, take}
use Rattle.std.specs.Prelude.{sum_by}
use Rattle.nm_epoch.specs.declared.collecting.HeldQueue.{HeldQueue}
use Rattle.nm_tree.proofs.worker.Worker.queue_blocks.Given as goal

abbrev pub invariant-loop-held : goal.invariant-loop-held
invariant-loop-held l = record {
  sum : l.blocks ≡ sum_by (λ (h : HeldQueue). h.queue.blocks) (take l.held-index l.held-items);
  most : l.blocks ≤ l.held-index * 4294967295;
}
