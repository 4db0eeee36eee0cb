use Rattle.std.proofs.Common.{◌≡◌, drop}
use Rattle.std.specs.Prelude.{None}
use Rattle.nm_tree.specs.Workers.{WorkerView}
use Rattle.nm_set.specs.Filling.{HasInserted}
use Rattle.nm_set.proofs.filling.fill.Given as goal

abbrev pub invariant-loop-key : goal.invariant-loop-key
invariant-loop-key l = record {
  tree : l.member.tree ≡ l.fn.member.tree;
  free : l.member.worker.held ≡ None;
  settled : l.member.worker.pending ≡ None;
  did : (z : WorkerView) → HasInserted (drop l.key-index l.keys) l.member.worker z
      → HasInserted l.keys l.fn.member.worker z;
}
