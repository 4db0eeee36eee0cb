-- What every state keeps besides places and pins: labels in order, frozen edges, and what a pinned
-- worker can reach.
use Rattle.std.specs.Prelude.{◌≡◌, ◌≢◌, ℕ, ◌+◌, ◌-◌, ◌≤◌, ◌⊎◌, true, false, ◌||◌, List, Option, Some, None, slice_get, slice_index_or}
use Rattle.nm_edge.specs.Edges.{Edge, to, other}
use Rattle.nm_edge.specs.declared.edge.Side.{Side}
use Rattle.nm_edge.specs.declared.edge.Side.TheVariants.{Left, Right}
use Rattle.nm_model.specs.declared.knowledge.Draft.{Draft}
use Rattle.nm_model.specs.declared.ledger.Queued.{Queued}
use Rattle.nm_model.specs.Memory.{node, edge, child, announcement, in_pool, is_leaf}
use Rattle.nm_model.specs.Ledgers.{held, queue_of}
use Rattle.nm_model.specs.Knowledge.{knows, is_private, seen_of, draft_of, read, knows_leaf}
use Rattle.nm_model.specs.Paths.{follow, Reached}
use Rattle.nm_model.specs.Reports.{counts}
use Rattle.nm_model.specs.Runs.{State, of}

-- ---- labels

-- the entry of an origin's queue at an index, as a worker holds it
abbrev pub IsQueued : State → ℕ → ℕ → ℕ → Queued → Type 0
IsQueued s w origin i e = slice_get (queue_of (held (of s w).ledgers origin)) i ≡ Some e

-- one label may follow another: labels do not fall, and no label follows an entry without one
abbrev pub MayPrecede : Option ℕ → Option ℕ → Type 0
MayPrecede l None = Unit {0}
MayPrecede None (Some n) = ⊥
MayPrecede (Some l) (Some n) = l ≤ n

-- along a queue labels do not fall, and entries without a label are last
abbrev pub LabelsDoNotFall : State → Type 0
LabelsDoNotFall s = (w origin i j : ℕ) (a b : Queued) → IsQueued s w origin i a
    → IsQueued s w origin j b → i ≤ j → MayPrecede a.label b.label

-- no label is above the epoch
abbrev pub NoLabelIsAboveTheEpoch : State → Type 0
NoLabelIsAboveTheEpoch s = (w origin i l : ℕ) (a : Queued) → IsQueued s w origin i a
    → a.label ≡ Some l → l ≤ s.memory.epoch

-- unlabelled entries are only in the worker's own queue, and its brief says whether there are any
pub record BriefIsRight (s : State) (w : ℕ) : Type 0 where
  pub waiting : (origin i : ℕ) (a : Queued) → IsQueued s w origin i a → a.label ≡ None
      → (origin ≡ w) × ((of s w).brief.unlabelled ≡ true)
  pub told : (of s w).brief.unlabelled ≡ true
      → (i : ℕ) × (a : Queued) × IsQueued s w w i a × (a.label ≡ None)

-- for each worker: unlabelled entries are only in its own queue, and its brief says whether there
-- are any
abbrev pub BriefsAreRight : State → Type 0
BriefsAreRight s = (w : ℕ) → BriefIsRight s w

-- ---- frozen edges

-- a slot that waits in a queue
abbrev pub IsWaiting : State → ℕ → Type 0
IsWaiting s x = (w : ℕ) × (origin : ℕ) × (i : ℕ) × (e : Queued) × IsQueued s w origin i e
    × (e.node.slot ≡ x)

-- a slot that a worker can reach, by edges as they are, from a node that it knows
pub record CanReach (s : State) (w x : ℕ) : Type 0 where
  pub from : ℕ
  pub known : knows (of s w) from ≡ true
  pub path : List Side
  pub ends : follow (child s.memory) from path ≡ x
  pub is_slot : x ≢ 0

-- an internal node in a queue has both edges marked
abbrev pub QueuedNodesAreFrozen : State → Type 0
QueuedNodesAreFrozen s = (x : ℕ) (side : Side) → IsWaiting s x → is_leaf (node s.memory x) ≡ false
    → ((edge s.memory x side).flag || (edge s.memory x side).tag) ≡ true

-- in a node that is reached or queued, the twin of a tagged edge is flagged
abbrev pub TaggedEdgesHaveFlaggedTwins : State → Type 0
TaggedEdgesHaveFlaggedTwins s =
    (x : ℕ) (side : Side) → Reached s.memory x ⊎ IsWaiting s x → (edge s.memory x side).tag ≡ true
    → (edge s.memory x (other side)).flag ≡ true

-- in a node that paths from the root reach, or that a worker can reach, a flagged edge leads to a
-- leaf
abbrev pub FlaggedEdgesLeadToLeaves : State → Type 0
FlaggedEdgesLeadToLeaves s = (x : ℕ) (side : Side) → Reached s.memory x ⊎ ((w : ℕ) × CanReach s w x)
    → (edge s.memory x side).flag ≡ true → is_leaf (node s.memory (child s.memory x side)) ≡ true

-- ---- what a worker can reach

-- a worker knows nodes only while it is pinned
abbrev pub OnlyThePinnedKnow : State → Type 0
OnlyThePinnedKnow s = (w x : ℕ) → knows (of s w) x ≡ true → (e : ℕ) × ((of s w).brief.pin ≡ Some e)

-- a slot that a worker can reach is neither in the pool nor private to any worker
abbrev pub ReachIsShared : State → Type 0
ReachIsShared s = (w x : ℕ) → CanReach s w x
    → (in_pool s.memory x ≡ false) × ((u : ℕ) → is_private (of s u) x ≡ false)

-- if a slot that a worker can reach is queued with a label, the worker's pin is not above the label
abbrev pub ReachIsGuarded : State → Type 0
ReachIsGuarded s = (w x pin u origin i label : ℕ) (e : Queued) → CanReach s w x
    → (of s w).brief.pin ≡ Some pin → IsQueued s u origin i e → e.node.slot ≡ x
    → e.label ≡ Some label → pin ≤ label

-- ---- epochs

-- each worker knows its own announcement, a pin is announced, and no epoch that was read is above
-- the epoch. If a worker was scanned at the present epoch, its pin, if it has one, is at this epoch
pub record EpochsAgree (s : State) : Type 0 where
  pub announced : (w : ℕ) → announcement s.memory w ≡ (of s w).brief.announcement
  pub pinned : (w e : ℕ) → (of s w).brief.pin ≡ Some e → (of s w).brief.announcement ≡ Some e
  pub sights : (w e : ℕ) → (of s w).brief.seen ≡ Some e → e ≤ s.memory.epoch
  pub scans : (w u e : ℕ) → (of s w).brief.seen ≡ Some s.memory.epoch
      → slice_index_or (of s w).scanned u false ≡ true → (of s u).brief.pin ≡ Some e
      → e ≡ s.memory.epoch

-- ---- counts

-- the counts of a report add up to the number of slots above 5
abbrev pub CountsAddUp : State → Type 0
CountsAddUp s = (counts s).pool + (counts s).private + (counts s).reached + (counts s).queued
    ≡ s.layout.nodes - 5

-- ---- what a worker read remains true

abbrev pub filled_on : Draft → Side → Option ℕ
filled_on d Left = d.left
filled_on d Right = d.right

-- a word that was read is of a known node. A flag that was read is still there, over the same slot.
-- A tagged edge that was read is still that edge, and a null edge is still null. An edge that was
-- stored in a private slot is still there, unmarked
pub record ReadsStand (s : State) (w : ℕ) : Type 0 where
  pub known : (x : ℕ) (side : Side) (e : Edge) → read (of s w) x side ≡ Some e
      → knows (of s w) x ≡ true
  pub flags : (x : ℕ) (side : Side) (e : Edge) → read (of s w) x side ≡ Some e → e.flag ≡ true
      → ((edge s.memory x side).flag ≡ true) × (child s.memory x side ≡ e.slot)
  pub tags : (x : ℕ) (side : Side) (e : Edge) → read (of s w) x side ≡ Some e → e.tag ≡ true
      → edge s.memory x side ≡ e
  pub nulls : (x : ℕ) (side : Side) (e : Edge) → read (of s w) x side ≡ Some e → e.slot ≡ 0
      → child s.memory x side ≡ 0
  pub drafts : (x : ℕ) (side : Side) (v : ℕ) → filled_on (draft_of (of s w) x) side ≡ Some v
      → edge s.memory x side ≡ to v

-- this holds for what each worker has read of edges, and stored in private slots
abbrev pub EachReadStands : State → Type 0
EachReadStands s = (w : ℕ) → ReadsStand s w

-- a node that a worker knows as a leaf is a leaf
abbrev pub KnownLeavesAreLeaves : State → Type 0
KnownLeavesAreLeaves s = (w x : ℕ) → knows_leaf (of s w) x ≡ true → is_leaf (node s.memory x) ≡ true

-- each birth that was read, and each birth and key that was stored in a private slot, is the one in
-- memory
pub record BirthsStand (s : State) (w : ℕ) : Type 0 where
  pub seen : (x b : ℕ) → (seen_of (of s w) x).birth ≡ Some b → (node s.memory x).birth ≡ b
  pub looked : (x b : ℕ) → (draft_of (of s w) x).looked ≡ Some b → (node s.memory x).birth ≡ b
  pub stored : (x b : ℕ) → (draft_of (of s w) x).birth ≡ Some b → (node s.memory x).birth ≡ b
  pub key : (x v : ℕ) → (draft_of (of s w) x).key ≡ Some v → (node s.memory x).key ≡ v

-- this holds for what each worker has read of births, and stored in private slots
abbrev pub EachBirthStands : State → Type 0
EachBirthStands s = (w : ℕ) → BirthsStand s w
