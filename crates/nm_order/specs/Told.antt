-- What the last entry of a log can return, by what its worker knew before: laws that a caller may
-- rely on when it looks.
use Rattle.std.specs.Prelude.{◌≡◌, ◌≢◌, ℕ, ◌<◌, ◌≤◌, ◌==◌, true, false, List, [], ◌∷◌, ◌++◌, Some, option_map, slice_get, if◌then◌else◌}
use Rattle.nm_edge.specs.Edges.{Edge, other}
use Rattle.nm_edge.specs.Layouts.{Layout}
use Rattle.nm_edge.specs.declared.edge.Side.{Side}
use Rattle.nm_edge.specs.declared.edge.Side.TheVariants.{Left}
use Rattle.nm_edge.specs.declared.node.NodeId.{NodeId}
use Rattle.nm_model.specs.declared.event.Field.TheVariants.{Key, Edge as EdgeOn}
use Rattle.nm_model.specs.declared.event.Event.TheVariants.{Claim, Look, Link, Flag, Tag, Splice, Swap}
use Rattle.nm_model.specs.declared.reply.Reply.TheVariants.{Claimed, Flagged, Cut, KeyIs, EdgeIs, Was, Lost}
use Rattle.nm_model.specs.declared.ledger.Queued.{Queued}
use Rattle.nm_model.specs.Memory.{infinity_0}
use Rattle.nm_model.specs.Knowledge.{is_private, knows}
use Rattle.nm_model.specs.Ledgers.{held, queue_of, with_cut}
use Rattle.nm_model.specs.Step.{is_frozen}
use Rattle.nm_model.specs.Walks.{Entry}
use Rattle.nm_order.specs.Logs.{known_by, IsLogOf}
use Rattle.nm_order.specs.Facts.{Fact, Holds}
use Rattle.nm_order.specs.Facts.Fact.{KnowsSlot, KnowsLeaf, IsTagged, IsFlagged, IsBorn}

-- holds of each part of an ordered run that ends with an entry
abbrev pub OfEachEntry : (Layout → ℕ → List Entry → Entry → Type 0) → Type 0
OfEachEntry P = (L : Layout) → 5 ≤ L.nodes → (w : ℕ) (log : List Entry) (entry : Entry)
    → IsLogOf L w (log ++ entry ∷ []) → P L w log entry

-- an entry that returns an edge as it was found: a look, an exchange that was lost, or a tag
-- (Natarajan and Mittal, section 3.2)
pub data TellsEdge : Entry → ℕ → Side → Edge → Type 0 where
  ByLook : (x : ℕ) (side : Side) (e : Edge) → TellsEdge (Look x (EdgeOn side), EdgeIs e) x side e
  ByLink : (x leaf new : ℕ) (side : Side) (e : Edge)
      → TellsEdge (Link x side leaf new, Lost e) x side e
  ByFlag : (x leaf : ℕ) (side : Side) (e : Edge) → TellsEdge (Flag x side leaf, Lost e) x side e
  ByTag : (x : ℕ) (side : Side) (e : Edge) → TellsEdge (Tag x side, Was e) x side e
  BySplice : (x s p : ℕ) (side keep : Side) (e : Edge)
      → TellsEdge (Splice x side s p keep, Lost e) x side e
  BySwap : (x leaf new : ℕ) (side : Side) (e : Edge)
      → TellsEdge (Swap x side leaf new, Lost e) x side e

-- if an edge is known as tagged, its twin is returned as flagged
abbrev pub TwinsAreToldFlagged : Layout → ℕ → List Entry → Entry → Type 0
TwinsAreToldFlagged L w log entry =
    (x : ℕ) (side : Side) (e : Edge) (to : ℕ) → TellsEdge entry x side e
    → Holds L w log (IsTagged x (other side) to) → e.flag ≡ true

-- if an edge is known as flagged, it is returned as flagged and still leads to the same slot
abbrev pub FlagsAreTold : Layout → ℕ → List Entry → Entry → Type 0
FlagsAreTold L w log entry = (x : ℕ) (side : Side) (e : Edge) (to : ℕ) → TellsEdge entry x side e
    → Holds L w log (IsFlagged x side to) → (e.flag ≡ true) × (e.slot ≡ to)

-- a flagged edge of a known slot leads to a slot of the pool's range
abbrev pub FlaggedEdgesLeadHigh : Layout → ℕ → List Entry → Entry → Type 0
FlaggedEdgesLeadHigh L w log entry =
    (x : ℕ) (side : Side) (e : Edge) → TellsEdge entry x side e → Holds L w log (KnowsSlot x)
    → e.flag ≡ true → 6 ≤ e.slot

-- a flagged edge of a known slot is one of a slot of the pool's range: no fixed node has a flagged
-- edge
abbrev pub FlaggedEdgesStandHigh : Layout → ℕ → List Entry → Entry → Type 0
FlaggedEdgesStandHigh L w log entry =
    (x : ℕ) (side : Side) (e : Edge) → TellsEdge entry x side e → Holds L w log (KnowsSlot x)
    → e.flag ≡ true → 6 ≤ x

-- an edge leads to a slot of the layout
abbrev pub EdgesStayInside : Layout → ℕ → List Entry → Entry → Type 0
EdgesStayInside L w log entry =
    (x : ℕ) (side : Side) (e : Edge) → TellsEdge entry x side e → e.slot ≤ L.nodes

-- the left edge of slot 2 is never null
abbrev pub RootLeads : Layout → ℕ → List Entry → Entry → Type 0
RootLeads L w log entry = (e : Edge) → TellsEdge entry 2 Left e → e.slot ≢ 0

-- an edge of a node that is known as a leaf is null
abbrev pub LeavesLeadNowhere : Layout → ℕ → List Entry → Entry → Type 0
LeavesLeadNowhere L w log entry =
    (x : ℕ) (side : Side) (e : Edge) → TellsEdge entry x side e → Holds L w log (KnowsLeaf x)
    → e.slot ≡ 0

-- an edge that is tagged is not null
abbrev pub TagsLead : Layout → ℕ → List Entry → Entry → Type 0
TagsLead L w log entry = (x : ℕ) (side : Side) (e : Edge) → entry ≡ (Tag x side, Was e) → e.slot ≢ 0

-- a key below the sentinels is one of a slot of the pool's range
abbrev pub LowKeysStandHigh : Layout → ℕ → List Entry → Entry → Type 0
LowKeysStandHigh L w log entry = (x n : ℕ) → entry ≡ (Look x Key, KeyIs n) → n < infinity_0 → 6 ≤ x

-- a slot that is claimed is new to the worker: it is not private to the worker, not known to it,
-- and in no queue that the worker holds
pub record IsNew (L : Layout) (w : ℕ) (log : List Entry) (x : ℕ) : Type 0 where
  pub not_held : is_private (known_by L w log) x ≡ false
  pub not_known : knows (known_by L w log) x ≡ false
  pub not_queued : (origin i : ℕ) (e : Queued)
      → slice_get (queue_of (held (known_by L w log).ledgers origin)) i ≡ Some e → e.node.slot ≢ x

-- a slot that is claimed is one of 6 to nodes, and new to the worker
abbrev pub ClaimsAreNew : Layout → ℕ → List Entry → Entry → Type 0
ClaimsAreNew L w log entry = (x y : ℕ) → entry ≡ (Claim x, Claimed y)
    → (y ≡ x) × (6 ≤ x) × (x ≤ L.nodes) × IsNew L w log x

-- ---- answers that name nodes

-- the facts of a frozen chain from a slot down to p: each edge on the way is tagged, the one beside
-- it is flagged, and the births of both nodes are known. The edge of p on keep is its last tagged
-- one. The list has each slot and then its leaf, downwards, as they are known (Natarajan and
-- Mittal, section 3.2, cleanup; for whole chains ours)
pub data FrozenTo (holds : Fact → Type 0) (p : ℕ) (keep : Side) : ℕ → List NodeId → Type 0 where
  ends_there : {leaf birth leaf_birth to : ℕ} → holds (IsTagged p keep to)
      → holds (IsFlagged p (other keep) leaf) → holds (IsBorn p birth)
      → holds (IsBorn leaf leaf_birth)
      → FrozenTo holds p keep p
      (record { slot = p; birth = birth } ∷ record { slot = leaf; birth = leaf_birth } ∷ [])
  goes_down : {slot to leaf birth leaf_birth : ℕ} {nodes : List NodeId} (side : Side)
      → holds (IsTagged slot side to) → holds (IsFlagged slot (other side) leaf)
      → holds (IsBorn slot birth) → holds (IsBorn leaf leaf_birth)
      → FrozenTo holds p keep to nodes
      → FrozenTo holds p keep slot
      (record { slot = slot; birth = birth } ∷ record { slot = leaf; birth = leaf_birth }
      ∷ nodes)

-- a splice that is won returns exactly the nodes of the chain as it was known
abbrev pub CutsAreAsKnown : Layout → ℕ → List Entry → Entry → Type 0
CutsAreAsKnown L w log entry =
    (a s p : ℕ) (side keep : Side) (ns known : List NodeId)
    → entry ≡ (Splice a side s p keep, Cut ns) → FrozenTo (Holds L w log) p keep s known
    → ns ≡ known

-- the nodes of a splice that is won are appended to its worker's own queue, without a label; the
-- other ledgers are unchanged
abbrev pub CutsEnterTheQueue : Layout → ℕ → List Entry → Entry → Type 0
CutsEnterTheQueue L w log entry =
    (a s p : ℕ) (side keep : Side) (ns : List NodeId) → entry ≡ (Splice a side s p keep, Cut ns)
    → (o : ℕ)
    → held (known_by L w (log ++ entry ∷ [])).ledgers o
    ≡ (if o == w then option_map (with_cut ns) (held (known_by L w log).ledgers o)
    else held (known_by L w log).ledgers o)

-- a flag that is won returns the leaf with its birth as it was known
abbrev pub FlagsAreAsKnown : Layout → ℕ → List Entry → Entry → Type 0
FlagsAreAsKnown L w log entry =
    (p leaf birth : ℕ) (side : Side) (n : NodeId) → entry ≡ (Flag p side leaf, Flagged n)
    → Holds L w log (IsBorn leaf birth) → n ≡ record { slot = leaf; birth = birth }

-- a chain that is frozen by the facts of a log may be cut off by a splice, by the worker's own
-- knowledge
abbrev pub FrozenChainsMayBeCut : Type 0
FrozenChainsMayBeCut = (L : Layout) → 5 ≤ L.nodes → (w : ℕ) (log : List Entry) → IsLogOf L w log
    → (s p : ℕ) (keep : Side) (nodes : List NodeId) → FrozenTo (Holds L w log) p keep s nodes
    → is_frozen L (known_by L w log) s p keep ≡ true
