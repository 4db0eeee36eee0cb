use Rattle.std.proofs.Common.{◌≡◌, List, ◌++◌, length}
use Rattle.std.specs.Prelude.{reverse}
use Rattle.nm_steps.specs.Steps.{PassView}
use Rattle.nm_tree.specs.Workers.{AreAllFresh, AreMade}
use Rattle.nm_tree.proofs.tree.workers_of.Given as goal

abbrev pub invariant-loop-pass : goal.invariant-loop-pass
invariant-loop-pass l = record {
  fresh : AreAllFresh l.passes.items;
  made : (rest : List PassView) × (l.initial.passes.items ≡ l.passes.items ++ rest)
      × AreMade l.fit rest (reverse l.workers.items);
}

abbrev pub decreases-loop-pass : goal.decreases-loop-pass
decreases-loop-pass l = length l.passes.items
