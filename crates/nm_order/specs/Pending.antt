-- Flagged leaves and the deletes to which they belong.
use Rattle.std.specs.Prelude.{◌≡◌, ℕ, true, List, Contains, Ok}
use Rattle.nm_edge.specs.Layouts.{Layout}
use Rattle.nm_edge.specs.declared.edge.Side.{Side}
use Rattle.nm_edge.specs.declared.node.NodeId.{NodeId}
use Rattle.nm_model.specs.declared.event.Event.{Event}
use Rattle.nm_model.specs.declared.reply.Reply.TheVariants.{Cut}
use Rattle.nm_model.specs.Memory.{node, edge, child, is_leaf, named}
use Rattle.nm_model.specs.Paths.{Reached}
use Rattle.nm_model.specs.Ordered.{ordered, outcome_in, after_in}
use Rattle.nm_order.specs.Removals.{is_splice}
use Rattle.nm_order.specs.Exchanges.{HasFlagged}

-- a leaf belongs to one delete: a call under its current pin has flagged it, and no call of another
-- worker has
pub record IsOfOneDelete (L : Layout) (turns : List (ℕ × Event)) (n : NodeId) : Type 0 where
  pub worker : ℕ
  pub key : ℕ
  pub flag : HasFlagged L turns worker key
  pub is_node : flag.flagged ≡ n
  pub only : (v j : ℕ) (f : HasFlagged L turns v j) → f.flagged.slot ≡ n.slot → v ≡ worker

-- a flagged edge of a reached node leads to the leaf of one delete, which is not answered yet
abbrev pub FlaggedLeavesArePending : Layout → List (ℕ × Event) → Type 0
FlaggedLeavesArePending L turns =
    (parent : ℕ) (side : Side) → Reached (after_in (ordered L) turns).state.memory parent
    → (edge (after_in (ordered L) turns).state.memory parent side).flag ≡ true
    → IsOfOneDelete L turns (named (after_in (ordered L) turns).state.memory
    (child (after_in (ordered L) turns).state.memory parent side))

-- each leaf of a cut by a splice is that of one delete, which is not answered yet
abbrev pub CutLeavesAreOfOneDelete : Layout → List (ℕ × Event) → Type 0
CutLeavesAreOfOneDelete L turns =
    (cut : ℕ × Event) (ns : List NodeId) → outcome_in (after_in (ordered L) turns) cut ≡ Ok (Cut ns)
    → is_splice cut.1 ≡ true → (n : NodeId) → Contains ns n
    → is_leaf (node (after_in (ordered L) turns).state.memory n.slot) ≡ true
    → IsOfOneDelete L turns n
