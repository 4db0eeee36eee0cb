-- The walk for a key, as a relation between a log and a later one.
use Rattle.std.specs.Prelude.{◌≡◌, ◌≢◌, ◌<◌, ◌≤◌, ◌+◌, ◌⊎◌, ℕ, zero, suc, true, false, if◌then◌else◌, List, [], ◌∷◌, ◌++◌, length, Option, Some, None}
use Rattle.nm_edge.specs.Edges.{Edge, EdgePlace}
use Rattle.nm_edge.specs.Layouts.{Layout}
use Rattle.nm_edge.specs.declared.edge.Side.{Side}
use Rattle.nm_edge.specs.declared.edge.Side.TheVariants.{Left, Right}
use Rattle.nm_model.specs.declared.event.Event.TheVariants.{Look}
use Rattle.nm_model.specs.declared.event.Field.TheVariants.{Key as KeyOf, Edge as EdgeOn}
use Rattle.nm_model.specs.declared.reply.Reply.TheVariants.{KeyIs, EdgeIs}
use Rattle.nm_model.specs.Memory.{infinity_0}
use Rattle.nm_model.specs.Searches.{side_of}
use Rattle.nm_model.specs.Walks.{Entry}
use Rattle.nm_order.specs.Facts.{Since, Fact}
use Rattle.nm_order.specs.Facts.Fact.{KnowsSlot, KnowsLeaf, IsTagged, Came, EndedAt}
use Rattle.nm_order.specs.Taught.{WalksAreFor as HasWalks}
use Rattle.nm_steps.specs.Steps.{PassView}
use Rattle.nm_walks.specs.declared.looking.Onward.{Onward}
use Rattle.nm_walks.specs.declared.seek_record.ChainEdge.{ChainEdge}
use Rattle.nm_walks.specs.declared.seek_record.Descent.{Descent}
use Rattle.nm_walks.specs.declared.seek_record.Descent.TheVariants.{Ended, Stopped}
use Rattle.nm_walks.specs.declared.seek_record.WalkEnd.{WalkEnd}
use Rattle.nm_walks.specs.declared.seek_record.SeekRecord.{SeekRecord}
use Rattle.nm_walks.specs.Bounds.{chain_bound, reach}
use Rattle.nm_walks.specs.Telling.{Tells, GoesOn, OnlyLooks}

-- ---- the position of a walk

-- the first position, at the left edge of slot 2 (Natarajan and Mittal, section 3.2, the seek
-- record)
abbrev pub begin : Edge → SeekRecord
begin e = record { ancestor = 1; above = Left; successor = 2; parent = 2; side = Left; edge = e }

-- the position at an edge, if the edge above it leads to its node and is not tagged
abbrev pub seek_at : EdgePlace → EdgePlace → Edge → SeekRecord
seek_at above at e = record {
  ancestor = above.slot;
  above = above.side;
  successor = at.slot;
  parent = at.slot;
  side = at.side;
  edge = e;
}

-- the next position: after the node that the edge led to, which the walk leaves on a side by an
-- edge (Natarajan and Mittal, section 3.2, the seek record)
abbrev pub onto : SeekRecord → Side → Edge → SeekRecord
onto s d e = if s.edge.tag then record {
  ancestor = s.ancestor;
  above = s.above;
  successor = s.successor;
  parent = s.edge.slot;
  side = d;
  edge = e;
}
    else record {
      ancestor = s.parent;
      above = s.side;
      successor = s.edge.slot;
      parent = s.edge.slot;
      side = d;
      edge = e;
    }

abbrev pub chained : ℕ → Side → ChainEdge
chained s d = record { slot = s; side = d }

-- the chain of tagged edges from the successor down to the parent, one node further
abbrev pub chain_onto : SeekRecord → List ChainEdge → List ChainEdge
chain_onto s c = if s.edge.tag then c ++ chained s.parent s.side ∷ [] else []

-- ---- the log of a walk

-- a look at a node's key, then one at its left edge and one at its right edge
abbrev pub after_looks : List Entry → ℕ → ℕ → Edge → Edge → List Entry
after_looks l s key left right =
    ((l ++ (Look s KeyOf, KeyIs key) ∷ []) ++ (Look s (EdgeOn Left), EdgeIs left) ∷ [])
    ++ (Look s (EdgeOn Right), EdgeIs right) ∷ []

-- the one of two edges that is on that side
abbrev pub edge_on : Side → Edge → Edge → Edge
edge_on Left left right = left
edge_on Right left right = right

-- a walk for k reads a node: its key, both edges, the side of k there, and the edge on that side
abbrev pub Reads : ℕ → ℕ → List Entry → List Entry → Onward → Type 0
Reads k s old new on = (left right : Edge) × (new ≡ after_looks old s on.found left right)
    × (on.side ≡ side_of k on.found) × (on.next ≡ edge_on on.side left right)

-- if the edge on the walk's side of a node that was read is its left one and is null, its right
-- edge is null too
abbrev pub IsLeafRead : ℕ → List Entry → List Entry → Onward → Type 0
IsLeafRead s old new on = on.side ≡ Left → on.next.slot ≡ 0 → (left right : Edge)
    × (new ≡ after_looks old s on.found left right) × (left.slot ≡ 0) × (right.slot ≡ 0)

-- slot 2 was looked at, and n nodes below it; no edge on the path was null (Natarajan and Mittal,
-- section 3.2, seek)
abbrev pub Walks : ℕ → ℕ → List Entry → List Entry → SeekRecord → List ChainEdge → Type 0
Walks k zero old new s c = (s ≡ begin s.edge) × (c ≡ []) × (s.edge.slot ≢ 0)
    × (new ≡ old ++ (Look 2 (EdgeOn Left), EdgeIs s.edge) ∷ [])
Walks k (suc n) old new s c =
    (mid : List Entry) × (t : SeekRecord) × (d : List ChainEdge) × (on : Onward) × Walks k n old mid t d
    × (on.next.slot ≢ 0)
    × Reads k t.edge.slot mid new on × (s ≡ onto t on.side on.next) × (c ≡ chain_onto t d)

-- a walk to the leaf that the edge of s leads to, whose key this is; including slot 2 and the leaf,
-- it looked at no more nodes than its reach allows (Natarajan and Mittal, section 3.2, seek)
abbrev pub EndsAtLeaf : Layout → ℕ → List Entry → List Entry → SeekRecord → List ChainEdge → ℕ → Type 0
EndsAtLeaf L k old new s c key =
    (n : ℕ) × (mid : List Entry) × (on : Onward) × (n + 2 ≤ reach L) × Walks k n old mid s c
    × (on.next.slot ≡ 0)
    × Reads k s.edge.slot mid new on × (on.found ≡ key)

-- a walk was broken off after it had looked at as many nodes as the tree has; this cannot occur in
-- a radix tree
abbrev pub IsTooLong : Layout → ℕ → List Entry → List Entry → Type 0
IsTooLong L k old new = (L.radix ≡ false) × (n : ℕ) × (s : SeekRecord) × (c : List ChainEdge)
    × Walks k n old new s c × (suc n ≡ L.nodes)

-- a walk was broken off because its chain would have 65 nodes with the parent; this cannot occur in
-- a radix tree
abbrev pub IsTooDeep : Layout → ℕ → List Entry → List Entry → Type 0
IsTooDeep L k old new = (L.radix ≡ false) × (n : ℕ) × (mid : List Entry) × (s : SeekRecord)
    × (c : List ChainEdge) × (on : Onward) × (n + 2 ≤ L.nodes) × Walks k n old mid s c
    × Reads k s.edge.slot mid new on × (on.next.slot ≢ 0) × (s.edge.tag ≡ true)
    × (chain_bound ≤ length c + 1)

-- a walk that was broken off at a bound (Natarajan and Mittal, section 3.2, seek)
abbrev pub IsBroken : Layout → ℕ → List Entry → List Entry → Type 0
IsBroken L k old new = IsTooLong L k old new ⊎ IsTooDeep L k old new

-- the result of a walk that remembers only the leaf's key
abbrev pub Finds : Layout → ℕ → List Entry → List Entry → Option ℕ → Type 0
Finds L k old new (Some key) = (s : SeekRecord) × (c : List ChainEdge)
    × EndsAtLeaf L k old new s c key
Finds L k old new None = IsTooLong L k old new

-- the result of a walk that remembers its chain, which has at most 64 nodes with the parent
-- (Natarajan and Mittal, section 3.2, seek)
abbrev pub Seeks : Layout → ℕ → List Entry → List Entry → List ChainEdge → Option WalkEnd → Type 0
Seeks L k old new c (Some r) = EndsAtLeaf L k old new r.seek_record c r.key
    × (length c < chain_bound)
Seeks L k old new c None = IsBroken L k old new

-- ---- what is known at its position

-- the chain leads from s to q by tagged edges
abbrev pub ChainLeads : (Fact → Type 0) → ℕ → List ChainEdge → ℕ → Type 0
ChainLeads H s [] q = s ≡ q
ChainLeads H s (l ∷ c) q = (l.slot ≡ s) × (t : ℕ) × H (IsTagged s l.side t) × H (KnowsSlot t)
    × ChainLeads H t c q

-- what is known of the nodes of a seek record and of its chain
pub record IsAt (H : Fact → Type 0) (s : SeekRecord) (c : List ChainEdge) : Type 0 where
  pub ancestor : H (KnowsSlot s.ancestor)
  pub successor : H (KnowsSlot s.successor)
  pub parent : H (KnowsSlot s.parent)
  pub node : H (KnowsSlot s.edge.slot)
  pub tagged : s.edge.tag ≡ true → H (IsTagged s.parent s.side s.edge.slot)
  pub way : ChainLeads H s.successor c s.parent

-- what is known at the end of a walk: that its leaf is a leaf, too
pub record HasEnded (H : Fact → Type 0) (L : Layout) (s : SeekRecord) (c : List ChainEdge) : Type 0 where
  pub at : IsAt H s c
  pub leaf : H (KnowsLeaf s.edge.slot)
  pub within : s.edge.slot ≤ L.nodes

-- each kind of walk that the call has came to the slot by this edge
abbrev pub EachWalkHasCome : PassView → PassView → ℕ → SeekRecord → Type 0
EachWalkHasCome p q k s = (since : Since) → HasWalks p.view.layout p.view.number p.view.log since k
    → Tells q (Came since k s.edge.slot s.parent s.side)

-- each kind of walk that the call has ended at the leaf by this edge, with its key
abbrev pub HasFound : PassView → PassView → ℕ → ℕ → ℕ → Side → ℕ → Type 0
HasFound p q k leaf parent side key =
    (since : Since) → HasWalks p.view.layout p.view.number p.view.log since k
    → Tells q (EndedAt since k leaf parent side key)

-- ---- a walk that remembers nothing, with what is known at its position

-- the walk is at s, n nodes below slot 2
pub record IsFinding (k n : ℕ) (o p : PassView) (s : SeekRecord) : Type 0 where
  pub walk : (c : List ChainEdge) × Walks k n o.view.log p.view.log s c
  pub known : Tells p (KnowsSlot s.edge.slot)
  pub come : EachWalkHasCome o p k s

-- the first part of a walk, by unmarked edges only: it has ended, or is at s after n nodes, which
-- are fewer than its reach
abbrev pub HasDescended : Layout → ℕ → PassView → PassView → Descent → Type 0
HasDescended L k o p (Ended r) = Finds L k o.view.log p.view.log (Some r.key)
    × HasFound o p k r.seek_record.edge.slot r.seek_record.parent r.seek_record.side r.key
HasDescended L k o p (Stopped s n) = IsFinding k n o p s × (n + 1 ≤ reach L)

-- ---- a walk that remembers its chain, with what is known at its position

-- in a tree of this layout the walk is at s, n nodes below slot 2
pub record IsWalking (L : Layout) (k n : ℕ) (o p : PassView) (s : SeekRecord) (c : List ChainEdge) : Type 0 where
  pub walk : Walks k n o.view.log p.view.log s c
  pub at : IsAt (Tells p) s c
  pub within : s.edge.slot ≤ L.nodes
  pub short : length c < chain_bound
  pub on : GoesOn o p
  pub only : OnlyLooks o p
  pub come : EachWalkHasCome o p k s

-- the walk has ended at a leaf, which is above slot 5 if its key is below the sentinels
pub record HasWalked (L : Layout) (k : ℕ) (o p : PassView) (c : List ChainEdge) (r : WalkEnd) : Type 0 where
  pub walk : EndsAtLeaf L k o.view.log p.view.log r.seek_record c r.key
  pub ended : HasEnded (Tells p) L r.seek_record c
  pub few : length c < chain_bound
  pub high : r.key < infinity_0 → 6 ≤ r.seek_record.edge.slot
  pub found : HasFound o p k r.seek_record.edge.slot r.seek_record.parent r.seek_record.side r.key
