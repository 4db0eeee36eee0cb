-- One more node of a chain is known as frozen.
use Rattle.std.proofs.Common.{◌≡◌, ℕ, List, [], ◌∷◌, ◌++◌, refl, sym, subst}
use Rattle.nm_edge.specs.Edges.{other}
use Rattle.nm_edge.specs.declared.edge.Side.{Side}
use Rattle.nm_edge.specs.declared.node.NodeId.{NodeId}
use Rattle.nm_model.specs.declared.event.Event.TheVariants.{Look}
use Rattle.nm_model.specs.declared.event.Field.TheVariants.{Edge as EdgeOn, Birth}
use Rattle.nm_model.specs.declared.reply.Reply.TheVariants.{EdgeIs, BirthIs}
use Rattle.nm_order.specs.Facts.{Fact}
use Rattle.nm_order.specs.Facts.Fact.{IsTagged, IsFlagged, IsBorn}
use Rattle.nm_order.specs.Told.{FrozenTo}
use Rattle.nm_order.specs.Told.FrozenTo.{ends_there, goes_down}
use Rattle.nm_steps.specs.Steps.{PassView}
use Rattle.nm_walks.specs.Cleanups.{FrozenAt, FreezesOne, top}
use Rattle.nm_walks.specs.Telling.{Tells, GoesOn}
use Rattle.nm_walks.specs.Walks.{ChainLeads}
use Rattle.nm_walks.specs.declared.seek_record.ChainEdge.{ChainEdge}

pub top_of : (H : Fact → Type 0) (t : ℕ) (c : List ChainEdge) (p : ℕ) → ChainLeads H t c p → top c p ≡ t
top_of H t [] p way = sym way
top_of H t (l ∷ c) p way = way.0

-- the end of a chain
pub frozen_end : (p q : PassView) (slot : ℕ) (side : Side) (node leaf : NodeId) → FrozenAt p q slot side node leaf
    → GoesOn p q → (to : ℕ) → Tells p (IsTagged slot side to) → FrozenTo (Tells q) slot side slot (node ∷ leaf ∷ [])
frozen_end p q slot side node leaf at on to tag =
    subst (λ (n : NodeId). FrozenTo (Tells q) slot side slot (n ∷ leaf ∷ [])) (named node slot at.is_slot)
    (ends_there (on.keeps (IsTagged slot side to) tag) at.flagged at.born at.leaf_born)
  where
    named : (n : NodeId) (s : ℕ) → n.slot ≡ s → record { slot = s; birth = n.birth } ≡ n
    named n s is = rw (← is) refl

-- and a node above it
pub frozen_above : (p r q : PassView) (slot to parent : ℕ) (side keep : Side) (node leaf : NodeId) (ns : List NodeId)
    → FrozenAt p r slot side node leaf → GoesOn p r → GoesOn r q → Tells p (IsTagged slot side to)
    → FrozenTo (Tells q) parent keep to ns
    → FrozenTo (Tells q) parent keep slot (node ∷ leaf ∷ ns)
frozen_above p r q slot to parent side keep node leaf ns at here later tag rest =
    subst (λ (n : NodeId). FrozenTo (Tells q) parent keep slot (n ∷ leaf ∷ ns)) (named node slot at.is_slot)
    (goes_down side (later.keeps (IsTagged slot side to) (here.keeps (IsTagged slot side to) tag))
    (later.keeps (IsFlagged slot (other side) leaf.slot) at.flagged) (later.keeps (IsBorn slot node.birth) at.born)
    (later.keeps (IsBorn leaf.slot leaf.birth) at.leaf_born) rest)
  where
    named : (n : NodeId) (s : ℕ) → n.slot ≡ s → record { slot = s; birth = n.birth } ≡ n
    named n s is = rw (← is) refl

pub freezes_one : (p q : PassView) (slot : ℕ) (side : Side) (node leaf : NodeId) → FrozenAt p q slot side node leaf
    → FreezesOne slot side p.view.log q.view.log
freezes_one p q slot side node leaf at = (
  at.edge,
  node.birth,
  leaf.birth,
  subst (λ (n : ℕ). q.view.log
      ≡ ((p.view.log ++ (Look slot (EdgeOn (other side)), EdgeIs at.edge) ∷ [])
      ++ (Look slot Birth, BirthIs node.birth) ∷ []) ++ (Look n Birth, BirthIs leaf.birth) ∷ []) (sym at.leads)
      at.looks,
)
