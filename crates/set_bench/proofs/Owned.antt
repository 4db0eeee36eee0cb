-- Workers that are ready are all of their tree.
use Rattle.std.proofs.Common.{suc, All, List, [], ◌∷◌, arith}
use Rattle.nm_steps.specs.Steps.{TreeView}
use Rattle.nm_tree.specs.Closing.{AreAllOf}
use Rattle.nm_tree.specs.Calls.{MayCall}
use Rattle.nm_tree.specs.Workers.{WorkerView}

pub all_are_of : (b : TreeView) (ws : List WorkerView) → All (λ (w : WorkerView). MayCall b w) ws → AreAllOf b ws
all_are_of b [] ready = tt
all_are_of b (w ∷ ws) ready = (
  (ready 0 w (omega arith)).own,
  all_are_of b ws
      (λ k d within. ready (suc k) d (omega (arith, within))),
)
