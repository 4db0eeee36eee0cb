-- A new tree and its workers.
use Rattle.std.specs.Prelude.{◌≡◌, List, length, All}
use Rattle.nm_edge.specs.Layouts.{Layout}
use Rattle.nm_edge.specs.declared.placement.Fit.{Fit}
use Rattle.nm_steps.specs.Steps.{TreeView}
use Rattle.nm_tree.specs.Calls.{MayCall}
use Rattle.nm_tree.specs.Workers.{WorkerView, AreNew, HaveFit}

-- a tree of that layout, and its workers in the order of their numbers; they have done nothing yet,
-- claim by that fit, and may make calls
pub record IsNewTree (L : Layout) (fit : Fit) (b : TreeView) (ws : List WorkerView) : Type 0 where
  pub layout : b.layout ≡ L
  pub count : length ws ≡ L.workers
  pub new : AreNew b 0 ws
  pub fits : HaveFit fit ws
  pub ready : All (MayCall b) ws
