-- Facts that stay: what a worker's log shows under one pin, in pieces that no later event of that
-- pin makes false.
use Rattle.std.specs.Prelude.{◌≡◌, ℕ, ◌≤◌, true, false, List, [], ◌∷◌, ◌++◌, Some, Contains}
use Rattle.nm_edge.specs.Edges.{Edge}
use Rattle.nm_edge.specs.Keys.{IsKey}
use Rattle.nm_edge.specs.Layouts.{Layout}
use Rattle.nm_edge.specs.declared.edge.Side.{Side}
use Rattle.nm_edge.specs.declared.node.NodeId.{NodeId}
use Rattle.nm_model.specs.declared.event.Op.{Op}
use Rattle.nm_model.specs.declared.arrivals.Call.{Call}
use Rattle.nm_model.specs.declared.arrivals.Arrival.{Arrival}
use Rattle.nm_model.specs.Memory.{node, edge, child, announcement, in_pool, is_leaf}
use Rattle.nm_model.specs.Knowledge.{Knowledge, knows, is_private, seen_of, read, knows_leaf}
use Rattle.nm_model.specs.Searches.{Search, idle}
use Rattle.nm_model.specs.Runs.{State, of}
use Rattle.nm_model.specs.Walks.{Entry, search_after, begins_anew}
use Rattle.nm_model.specs.Ordered.{ordered, after_in}
use Rattle.nm_order.specs.Logs.{known_by, IsLogOf}

-- the walks of a call after its pin, or after the flag that it won
pub data Since : Type 0 where
  ThePin : Since
  TheFlag : Since

-- a piece of what a worker's log shows, that stays true while its pin lasts. A fact of walks is of
-- those after the pin, or of those after the flag (`Since`)
pub data Fact : Type 0 where
  -- the worker is pinned at that epoch
  IsPinned : ℕ → Fact
  -- it knows that slot, and it knows that slot as a leaf
  KnowsSlot : ℕ → Fact
  KnowsLeaf : ℕ → Fact
  -- the edge of a slot on a side is tagged and leads to another slot, and the same for a flagged
  -- edge
  IsTagged : ℕ → Side → ℕ → Fact
  IsFlagged : ℕ → Side → ℕ → Fact
  -- the edge of a slot on a side is tagged and is exactly this one, including its flag
  IsFrozen : ℕ → Side → Edge → Fact
  -- a slot has that birth
  IsBorn : ℕ → ℕ → Fact
  -- the pin is for a call of that operation on that key
  CallIs : Op → ℕ → Fact
  -- a walk of the call, for a key, came to a slot by a parent's edge on a side; it read a key
  -- there; it ended there
  Came : Since → ℕ → ℕ → ℕ → Side → Fact
  ReadKey : Since → ℕ → ℕ → ℕ → Side → ℕ → Fact
  EndedAt : Since → ℕ → ℕ → ℕ → Side → ℕ → Fact

-- ---- what a log holds

abbrev pub arrivals : Search → Since → List Arrival
arrivals s ThePin = s.walks
arrivals s TheFlag = s.later

-- an arrival of a walk for k at a slot, by a parent's edge on a side
pub record Arrived (s : Search) (since : Since) (k slot parent : ℕ) (side : Side) : Type 0 where
  pub call : Call
  pub is_call : s.call ≡ Some call
  pub is_for : call.key ≡ k
  pub arrival : Arrival
  pub among : Contains (arrivals s since) arrival
  pub is_slot : arrival.slot ≡ slot
  pub is_parent : arrival.parent ≡ parent
  pub is_side : arrival.side ≡ side

-- the fact follows from what a worker knows and from its search
abbrev pub HoldsIn : Knowledge → Search → Fact → Type 0
HoldsIn known s (IsPinned epoch) = known.brief.pin ≡ Some epoch
HoldsIn known s (KnowsSlot slot) = knows known slot ≡ true
HoldsIn known s (KnowsLeaf slot) = knows_leaf known slot ≡ true
HoldsIn known s (IsTagged slot side to) =
    (e : Edge) × (read known slot side ≡ Some e) × (e.tag ≡ true) × (e.slot ≡ to)
HoldsIn known s (IsFlagged slot side to) =
    (e : Edge) × (read known slot side ≡ Some e) × (e.flag ≡ true) × (e.slot ≡ to)
HoldsIn known s (IsFrozen slot side e) = (read known slot side ≡ Some e) × (e.tag ≡ true)
HoldsIn known s (IsBorn slot birth) = (seen_of known slot).birth ≡ Some birth
HoldsIn known s (CallIs op key) = s.call ≡ Some (record { op = op; key = key })
HoldsIn known s (Came since k slot parent side) = Arrived s since k slot parent side
HoldsIn known s (ReadKey since k slot parent side key) =
    (a : Arrived s since k slot parent side) × (a.arrival.key ≡ Some key)
HoldsIn known s (EndedAt since k slot parent side key) =
    (a : Arrived s since k slot parent side) × (a.arrival.key ≡ Some key) × (a.arrival.ended ≡ true)

-- the fact follows from the log of worker w, by the knowledge and the search of that log
abbrev pub Holds : Layout → ℕ → List Entry → Fact → Type 0
Holds L w log fact = HoldsIn (known_by L w log) (search_after idle log) fact

-- ---- facts are true

-- a slot that is neither in the pool nor private to any worker
pub record IsShared (s : State) (slot : ℕ) : Type 0 where
  pub not_pooled : in_pool s.memory slot ≡ false
  pub not_private : (u : ℕ) → is_private (of s u) slot ≡ false

-- what a fact of worker w says of the current state: the announcement is that epoch, the slot is
-- shared, the node is a leaf, the edge has that mark and leads there, or the birth or the key is
-- that one
abbrev pub IsTrueIn : State → ℕ → Fact → Type 0
IsTrueIn s w (IsPinned epoch) = announcement s.memory w ≡ Some epoch
IsTrueIn s w (KnowsSlot slot) = IsShared s slot
IsTrueIn s w (KnowsLeaf slot) = is_leaf (node s.memory slot) ≡ true
IsTrueIn s w (IsTagged slot side to) =
    ((edge s.memory slot side).tag ≡ true) × (child s.memory slot side ≡ to)
IsTrueIn s w (IsFlagged slot side to) =
    ((edge s.memory slot side).flag ≡ true) × (child s.memory slot side ≡ to)
IsTrueIn s w (IsFrozen slot side e) = (edge s.memory slot side ≡ e) × (e.tag ≡ true)
IsTrueIn s w (IsBorn slot birth) = (node s.memory slot).birth ≡ birth
IsTrueIn s w (CallIs op key) = IsKey key
IsTrueIn s w (Came since k slot parent side) = IsShared s slot
IsTrueIn s w (ReadKey since k slot parent side key) = (node s.memory slot).key ≡ key
IsTrueIn s w (EndedAt since k slot parent side key) =
    (is_leaf (node s.memory slot) ≡ true) × ((node s.memory slot).key ≡ key)

-- in every ordered run, each fact that a worker's part holds is true of the state to which the run
-- leads
abbrev pub FactsAreTrue : Type 0
FactsAreTrue = (L : Layout) → 5 ≤ L.nodes
    → (w : ℕ) (log : List Entry) (l : IsLogOf L w log) (fact : Fact) → Holds L w log fact
    → IsTrueIn (after_in (ordered L) l.turns).state w fact

-- ---- facts stay

-- each fact that a worker's log holds is still held after one more entry that neither begins nor
-- ends a pin
abbrev pub FactsStay : Type 0
FactsStay = (L : Layout) → 5 ≤ L.nodes → (w : ℕ) (log : List Entry) (entry : Entry)
    → IsLogOf L w (log ++ entry ∷ []) → begins_anew entry ≡ false → (fact : Fact)
    → Holds L w log fact → Holds L w (log ++ entry ∷ []) fact

-- ---- marked edges

-- a slot of which a worker knows a flagged edge is one of the pool's range: no fixed node has such
-- an edge
abbrev pub FlaggedSlotsStandHigh : Type 0
FlaggedSlotsStandHigh = (L : Layout) → 5 ≤ L.nodes → (w : ℕ) (log : List Entry) → IsLogOf L w log
    → (x to : ℕ) (side : Side) → Holds L w log (IsFlagged x side to) → 6 ≤ x

-- a slot of which a worker knows a tagged edge is one of the pool's range
abbrev pub TaggedSlotsStandHigh : Type 0
TaggedSlotsStandHigh = (L : Layout) → 5 ≤ L.nodes → (w : ℕ) (log : List Entry) → IsLogOf L w log
    → (x to : ℕ) (side : Side) → Holds L w log (IsTagged x side to) → 6 ≤ x

-- ---- the leaf that a call flagged

-- if a walk that began after the flag came to the flagged leaf, the edge by which it came is known
-- as flagged
abbrev pub LaterWalksFindTheFlag : Type 0
LaterWalksFindTheFlag = (L : Layout) → 5 ≤ L.nodes → (w : ℕ) (log : List Entry) → IsLogOf L w log
    → (n : NodeId) (k parent : ℕ) (side : Side)
    → (search_after idle log).flagged ≡ Some n → Holds L w log (Came TheFlag k n.slot parent side)
    → Holds L w log (IsFlagged parent side n.slot)
