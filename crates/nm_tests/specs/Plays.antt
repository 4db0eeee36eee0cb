-- What tests keep of a worker over calls: its pass, and the queue of the nodes that it cut off,
-- with its counts.
use Rattle.std.specs.Prelude.{ℕ}
use Rattle.nm_edge.specs.declared.node.NodeId.{NodeId}
use Rattle.nm_steps.specs.Steps.{TreeView, PassView, IsOf}
use Rattle.nm_epoch.specs.declared.collecting.HeldQueue.{HeldQueue}
use Rattle.nm_epoch.specs.Resting.{IsResting}
use Rattle.nm_walks.specs.Cleanups.{HoldsCuts}
use Rattle.nm_calls.specs.Deletes.{IsRemoving}

-- the worker rests, and its queue and its counts are those of its log
pub record IsAtRest (b : TreeView) (p : PassView) (h : HeldQueue) : Type 0 where
  pub own : IsOf b p
  pub kept : HoldsCuts p h
  pub rests : IsResting p

-- the worker has flagged that leaf to delete a key, and its queue and its counts are those of its
-- log
pub record IsPendingFor (b : TreeView) (p : PassView) (h : HeldQueue) (k : ℕ) (n : NodeId) : Type 0 where
  pub own : IsOf b p
  pub kept : HoldsCuts p h
  pub removing : IsRemoving p k n
