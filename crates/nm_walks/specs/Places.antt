-- The walk of an insert: it ends at a leaf or, in a radix tree, at the place for the key.
use Rattle.std.specs.Prelude.{◌≡◌, ◌≤◌, ◌<◌, ◌+◌, ◌⊎◌, ℕ, Bool, true, false, List, [], length, Option, Some, None}
use Rattle.nm_edge.specs.Layouts.{Layout}
use Rattle.nm_edge.specs.Ranges.{covers}
use Rattle.nm_edge.specs.declared.edge.Side.{Side}
use Rattle.nm_edge.specs.declared.edge.Side.TheVariants.{Left}
use Rattle.nm_model.specs.Searches.{side_of}
use Rattle.nm_model.specs.Walks.{Entry}
use Rattle.nm_order.specs.Facts.{Since}
use Rattle.nm_order.specs.Facts.Fact.{KnowsLeaf, ReadKey}
use Rattle.nm_order.specs.Taught.{WalksAreFor as HasWalks}
use Rattle.nm_steps.specs.Steps.{PassView}
use Rattle.nm_walks.specs.declared.looking.Onward.{Onward}
use Rattle.nm_walks.specs.declared.seek_record.ChainEdge.{ChainEdge}
use Rattle.nm_walks.specs.declared.seek_record.Descent.{Descent}
use Rattle.nm_walks.specs.declared.seek_record.Descent.TheVariants.{Ended, Stopped}
use Rattle.nm_walks.specs.declared.seek_record.WalkEnd.{WalkEnd}
use Rattle.nm_walks.specs.declared.seek_record.SeekRecord.{SeekRecord}
use Rattle.nm_walks.specs.Bounds.{chain_bound, reach}
use Rattle.nm_walks.specs.Telling.{Tells}
use Rattle.nm_walks.specs.declared.walking.Stop.{Stop}
use Rattle.nm_walks.specs.declared.walking.Stop.TheVariants.{Leaf, Place}
use Rattle.nm_walks.specs.Walks.{Walks, Reads, IsBroken, IsAt, HasFound, IsWalking, HasWalked, Seeks}

-- ---- the log of such a walk

-- an insert of k stops at a node that was read so: at a leaf; and in a radix tree at an internal
-- node too, if k is not in its range
abbrev pub IsStop : Bool → ℕ → Onward → Type 0
IsStop false k on = on.next.slot ≡ 0
IsStop true k on = (on.next.slot ≡ 0) ⊎ (covers on.found k ≡ false)

-- a walk to the slot at which it stops, which the edge of s leads to and whose key this is
abbrev pub StopsAt : Layout → ℕ → List Entry → List Entry → SeekRecord → List ChainEdge → ℕ → Type 0
StopsAt L k old new s c key =
    (n : ℕ) × (mid : List Entry) × (on : Onward) × (n + 2 ≤ reach L) × Walks k n old mid s c
    × IsStop L.radix k on × Reads k s.edge.slot mid new on × (on.found ≡ key)

-- the result of such a walk. None: it was broken off at a bound
abbrev pub Stops : Layout → ℕ → List Entry → List Entry → List ChainEdge → Option WalkEnd → Type 0
Stops L k old new c (Some r) = StopsAt L k old new r.seek_record c r.key
    × (length c < chain_bound)
Stops L k old new c None = IsBroken L k old new

-- ---- what is known at its position

-- each kind of walk that the call has came to the slot by this edge and read that key there
abbrev pub EachWalkHasRead : PassView → PassView → ℕ → ℕ → ℕ → Side → ℕ → Type 0
EachWalkHasRead p q k slot parent up v =
    (since : Since) → HasWalks p.view.layout p.view.number p.view.log since k
    → Tells q (ReadKey since k slot parent up v)

-- the edge is the first one that a walk reads, or its node has k in its range, on that side
abbrev pub IsNarrowed : PassView → PassView → ℕ → ℕ → Side → Type 0
IsNarrowed o p k parent side = ((parent ≡ 2) × (side ≡ Left))
    ⊎ ((v above : ℕ) × (up : Side) × (covers v k ≡ true) × (side_of k v ≡ side)
    × EachWalkHasRead o p k parent above up v)

-- a new node may be put over k and the slot x with another key: x is known as a leaf, or does not
-- have k in its range
abbrev pub IsOver : PassView → ℕ → ℕ → ℕ → Type 0
IsOver p k x key = Tells p (KnowsLeaf x) ⊎ ((6 ≤ x) × (covers key k ≡ false))

-- in a tree of this shape the walk of an insert has stopped there, with what is known of it
pub record HasStopped (L : Layout) (k : ℕ) (o p : PassView) (c : List ChainEdge) (r : WalkEnd) : Type 0 where
  pub walk : StopsAt L k o.view.log p.view.log r.seek_record c r.key
  pub at : IsAt (Tells p) r.seek_record c
  pub within : r.seek_record.edge.slot ≤ L.nodes
  pub few : length c < chain_bound
  pub found : r.key ≡ k → HasFound o p k r.seek_record.edge.slot r.seek_record.parent r.seek_record.side r.key

-- the key may be put there: in the shape of Natarajan and Mittal, or in that of a radix tree
pub record HasEndedPlain (o p : PassView) (k : ℕ) (r : WalkEnd) : Type 0 where
  pub leaf : Tells p (KnowsLeaf r.seek_record.edge.slot)
  pub found : HasFound o p k r.seek_record.edge.slot r.seek_record.parent r.seek_record.side r.key

pub record HasNarrowed (o p : PassView) (k : ℕ) (r : WalkEnd) : Type 0 where
  pub read : EachWalkHasRead o p k r.seek_record.edge.slot r.seek_record.parent r.seek_record.side r.key
  pub narrowed : IsNarrowed o p k r.seek_record.parent r.seek_record.side
  pub over : IsOver p k r.seek_record.edge.slot r.key

abbrev pub HasPlace : Bool → PassView → PassView → ℕ → WalkEnd → Type 0
HasPlace false o p k r = HasEndedPlain o p k r
HasPlace true o p k r = HasNarrowed o p k r

-- ---- a walk by what it stops at

abbrev pub IsStopOf : Stop → ℕ → Onward → Type 0
IsStopOf Leaf = IsStop false
IsStopOf Place = IsStop true

-- the key of a node by which such a walk goes on
abbrev pub GoesBy : Stop → ℕ → ℕ → Type 0
GoesBy Leaf v k = Unit {0}
GoesBy Place v k = covers v k ≡ true

-- its result
abbrev pub SeeksTo : Stop → Layout → ℕ → List Entry → List Entry → List ChainEdge → Option WalkEnd → Type 0
SeeksTo Leaf = Seeks
SeeksTo Place = Stops

-- it has come to its end, with what is known of it
abbrev pub HasCome : Stop → Layout → ℕ → PassView → PassView → List ChainEdge → WalkEnd → Type 0
HasCome Leaf L k o p c r = HasWalked L k o p c r
HasCome Place L k o p c r = HasStopped L k o p c r × HasNarrowed o p k r

-- what is known of the edge at which it is
abbrev pub IsNarrowedBy : Stop → PassView → PassView → ℕ → ℕ → Side → Type 0
IsNarrowedBy Leaf o p k parent side = Unit {0}
IsNarrowedBy Place o p k parent side = IsNarrowed o p k parent side

-- the first part of it, by unmarked edges only, so that its chain is empty: it has ended, or is at
-- s after n nodes, which are fewer than its reach
abbrev pub HasRemembered : Stop → Layout → ℕ → PassView → PassView → Descent → Type 0
HasRemembered stop L k o p (Ended r) = HasCome stop L k o p [] r
HasRemembered stop L k o p (Stopped s n) = IsWalking L k n o p s []
    × IsNarrowedBy stop o p k s.parent s.side × (n + 1 ≤ reach L)
