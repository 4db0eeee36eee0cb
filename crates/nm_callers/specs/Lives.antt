-- What the worker of a map has freed in its life: it is what its collections handed out.
use Rattle.std.specs.Prelude.{◌≡◌, ℕ, Bool, List, [], ◌∷◌, ◌++◌, map}
use Rattle.nm_edge.specs.declared.node.NodeId.{NodeId}
use Rattle.nm_epoch.specs.declared.collecting.Entry.{Entry}
use Rattle.nm_epoch.specs.declared.handing.HandedOut.{HandedOut}
use Rattle.nm_tree.specs.Answers.{FreesNone, freed_in}
use Rattle.nm_tree.specs.Handing.{LeavesCollectValues}
use Rattle.nm_tree.specs.Workers.{WorkerView}

-- a collection of a map, with the values that it wrote: one for each leaf that it freed
pub record Collection : Type 0 where
  pub before : WorkerView
  pub after : WorkerView
  pub nodes : ℕ
  pub room : Bool
  pub values : List ℕ
  pub told : HandedOut
  pub leaves : LeavesCollectValues nodes room before after values told

-- from w to z the worker made these collections, one after the other, and else calls that free no node
abbrev pub LivesBy : List Collection → WorkerView → WorkerView → Type 0
LivesBy [] w z = FreesNone w z
LivesBy (c ∷ cs) w z = FreesNone w c.before × LivesBy cs c.after z

-- the nodes that these collections freed, one after the other
abbrev pub freed_by_each : List Collection → List NodeId
freed_by_each [] = []
freed_by_each (c ∷ cs) = map (λ (e : Entry). e.node) c.leaves.freed ++ freed_by_each cs

-- the nodes that a worker has freed, by its log, are those of its collections: each once, in their order
abbrev pub FreesByCollections : Type 0
FreesByCollections = (cs : List Collection) (w z : WorkerView) → LivesBy cs w z
    → freed_in z.pass.view.log ≡ freed_in w.pass.view.log ++ freed_by_each cs

-- between w and z one collection wrote these values, and the worker has freed no other node than those of
-- this collection
pub record HandsOutAll (w z : WorkerView) (values : List ℕ) : Type 0 where
  pub by : Collection
  pub are : by.values ≡ values
  pub all : freed_in z.pass.view.log
      ≡ freed_in w.pass.view.log ++ map (λ (e : Entry). e.node) by.leaves.freed
