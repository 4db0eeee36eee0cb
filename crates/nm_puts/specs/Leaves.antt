-- A new leaf: a private slot with its birth.
use Rattle.std.specs.Prelude.{◌≡◌, Option, Some, None}
use Rattle.nm_edge.specs.declared.node.NodeId.{NodeId}
use Rattle.nm_model.specs.Maps.{get}
use Rattle.nm_steps.specs.Rules.{knowledge}
use Rattle.nm_steps.specs.Steps.{PassView}
use Rattle.nm_walks.specs.Growing.{HasNewNodes}
use Rattle.nm_walks.specs.Making.{KeepsOtherSlots, draft}

-- the private slots are those that there were, and this new node, whose birth is stored
pub record HoldsNewLeaf (o p : PassView) (n : NodeId) : Type 0 where
  pub has_birth : (draft p n.slot).birth ≡ Some n.birth
  pub others : KeepsOtherSlots n.slot o p
  pub was : get (knowledge o.view).drafts n.slot ≡ None

-- the private slots are those that there were, and a new node if there is one
abbrev pub HasNewLeaf : PassView → PassView → Option NodeId → Type 0
HasNewLeaf o p None = HasNewNodes o p None
HasNewLeaf o p (Some n) = HoldsNewLeaf o p n
