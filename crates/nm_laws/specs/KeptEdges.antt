-- What a splice that is won does to the edges of the tree: its chain ends at the parent, and the
-- ancestor gets the edge that the parent keeps.
use Rattle.std.specs.Prelude.{◌≡◌, ℕ, false, List, Ok}
use Rattle.nm_edge.specs.Edges.{to}
use Rattle.nm_edge.specs.declared.edge.Side.{Side}
use Rattle.nm_edge.specs.declared.node.NodeId.{NodeId}
use Rattle.nm_model.specs.declared.event.Event.TheVariants.{Splice}
use Rattle.nm_model.specs.declared.reply.Reply.TheVariants.{Cut}
use Rattle.nm_model.specs.Memory.{Memory, edge, child}
use Rattle.nm_model.specs.Headline.{slots_of, IsFrozenChainTo}
use Rattle.nm_model.specs.Runs.{State, next, outcome}

-- the edges before and after a splice. The ancestor's edge led to the successor, without a mark.
-- From there the slots that were cut are a frozen chain down to the parent. The ancestor's edge is
-- now the one that the parent keeps, with its slot and its flag and no tag. No other edge has
-- changed (Natarajan and Mittal, section 3.2, cleanup)
pub record KeepsTheEdge (before after : Memory) (ancestor : ℕ) (side : Side) (successor parent : ℕ)
    (keep : Side) (slots : List ℕ) : Type 0 where
  pub led : edge before ancestor side ≡ to successor
  pub chain : IsFrozenChainTo before parent keep successor slots
  pub slot : child after ancestor side ≡ child before parent keep
  pub flag : (edge after ancestor side).flag ≡ (edge before parent keep).flag
  pub tag : (edge after ancestor side).tag ≡ false
  pub others : (x : ℕ) (d : Side) → ((x ≡ ancestor) × (d ≡ side) → ⊥)
      → edge after x d ≡ edge before x d

-- this holds for every splice that is won in a state (Natarajan and Mittal, section 3.2, cleanup)
abbrev pub EachSpliceKeepsTheEdge : State → Type 0
EachSpliceKeepsTheEdge s = (w ancestor : ℕ) (side : Side) (successor parent : ℕ) (keep : Side)
    (ns : List NodeId)
    → outcome s (w, Splice ancestor side successor parent keep) ≡ Ok (Cut ns)
    → KeepsTheEdge s.memory (next s (w, Splice ancestor side successor parent keep)).memory ancestor
    side successor parent keep (slots_of ns)
