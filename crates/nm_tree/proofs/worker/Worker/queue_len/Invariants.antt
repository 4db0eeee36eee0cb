use Rattle.std.proofs.Common.{◌≡◌, ◌≤◌, ◌*◌, length, take}
use Rattle.std.specs.Prelude.{sum_by}
use Rattle.nm_epoch.specs.declared.collecting.HeldQueue.{HeldQueue}
use Rattle.nm_tree.proofs.worker.Worker.queue_len.Given as goal

abbrev pub invariant-loop-held : goal.invariant-loop-held
invariant-loop-held l = record {
  sum : l.waiting ≡ sum_by (λ (h : HeldQueue). length h.queue.items) (take l.held-index l.held-items);
  most : l.waiting ≤ l.held-index * 4294967295;
}
