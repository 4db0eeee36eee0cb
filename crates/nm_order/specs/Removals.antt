-- The moment of a delete: the cut that contains the leaf that it flagged; and the keys that a cut
-- removes from the set.
use Rattle.std.specs.Prelude.{◌≡◌, ◌↔◌, ℕ, Bool, true, false, List, ◌∷◌, ◌++◌, Contains, Ok}
use Rattle.nm_edge.specs.Layouts.{Layout}
use Rattle.nm_edge.specs.declared.node.NodeId.{NodeId}
use Rattle.nm_model.specs.declared.event.Op.TheVariants.{Delete}
use Rattle.nm_edge.specs.declared.edge.Side.{Side}
use Rattle.nm_model.specs.declared.event.Event.{Event}
use Rattle.nm_model.specs.declared.event.Event.TheVariants.{Splice, Swap}
use Rattle.nm_model.specs.declared.reply.Reply.TheVariants.{Cut}
use Rattle.nm_model.specs.Memory.{Memory, node, is_leaf}
use Rattle.nm_model.specs.Ordered.{Configuration, ordered, next_in, outcome_in, after_in, trace_in}
use Rattle.nm_model.specs.Acts.{InSet}
use Rattle.nm_order.specs.Intervals.{key}
use Rattle.nm_order.specs.Moments.{PinStands}
use Rattle.nm_order.specs.Exchanges.{MayAnswer, HasFlagged}

abbrev pub is_splice : Event → Bool
is_splice (Splice a side s p keep) = true
is_splice _ = false

-- a swap that is won leaves the set as it is
abbrev pub SwapsTakeNoKey : Configuration → Type 0
SwapsTakeNoKey c = (w p : ℕ) (side : Side) (leaf new : ℕ) (ns : List NodeId)
    → outcome_in c (w, Swap p side leaf new) ≡ Ok (Cut ns)
    → (k : ℕ) → InSet (next_in c (w, Swap p side leaf new)).state.memory k ↔ InSet c.state.memory k

-- the key of a leaf among these nodes
pub record IsKeyOf (m : Memory) (ns : List NodeId) (k : ℕ) : Type 0 where
  pub leaf : NodeId
  pub among : Contains ns leaf
  pub childless : is_leaf (node m leaf.slot) ≡ true
  pub has_key : key m leaf.slot ≡ k

-- the set loses the keys of the leaves among these nodes, which were in it, and nothing else
pub record Loses (before after : Memory) (ns : List NodeId) : Type 0 where
  pub had : (k : ℕ) → IsKeyOf before ns k → InSet before k
  pub now : (k : ℕ) → InSet after k ↔ InSet before k × (IsKeyOf before ns k → ⊥)

-- a cut by a splice removes from the set exactly the keys of its leaves
abbrev pub CutsTakeTheirKeys : Configuration → Type 0
CutsTakeTheirKeys c = (turn : ℕ × Event) (ns : List NodeId) → outcome_in c turn ≡ Ok (Cut ns) → is_splice turn.1 ≡ true
    → Loses c.state.memory (next_in c turn).state.memory ns

-- under the pin that lasts from then on, the worker's call to delete k had flagged its leaf, and a
-- splice of some worker cut that leaf (Natarajan and Mittal, section 3.2, cleanup, with helpers)
pub record HasWonDelete (L : Layout) (turns : List (ℕ × Event)) (w k : ℕ) : Type 0 where
  pub before : List (ℕ × Event)
  pub cut : ℕ × Event
  pub since : List (ℕ × Event)
  pub nodes : List NodeId
  pub is_run : turns ≡ before ++ cut ∷ since
  pub won : outcome_in (after_in (ordered L) before) cut ≡ Ok (Cut nodes)
  pub flag : HasFlagged L before w k
  pub among : Contains nodes flag.flagged
  pub stands : PinStands w (trace_in (after_in (ordered L) before) (cut ∷ since))

-- a call that may answer its delete with true has had its flagged leaf cut
abbrev pub TrueDeletesHaveDeleted : Layout → List (ℕ × Event) → Type 0
TrueDeletesHaveDeleted L turns =
    (w k : ℕ) → MayAnswer (after_in (ordered L) turns) w Delete k true → HasWonDelete L turns w k
