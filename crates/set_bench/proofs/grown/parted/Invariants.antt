use Rattle.std.specs.Prelude.{All}
use Rattle.nm_tree.specs.Calls.{MayCall}
use Rattle.set_bench.proofs.grown.parted.Given as goal

abbrev pub invariant-loop-worker : goal.invariant-loop-worker
invariant-loop-worker l = record {
  threads : All (λ w. MayCall l.fn.tree w) l.workers.items;
  others : All (λ w. MayCall l.fn.tree w) l.others.items;
  left : All (λ w. MayCall l.fn.tree w) l.worker-iterator.rest.items;
}
