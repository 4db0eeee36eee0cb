-- When a tree is closed, each value that was ever stored for a leaf is at exactly one place.
use Rattle.std.specs.Prelude.{◌≡◌, ◌≤◌, ℕ, List, ◌++◌, Contains, Some, slice_get}
use Rattle.nm_edge.specs.Layouts.{Layout}
use Rattle.nm_edge.specs.declared.node.NodeId.{NodeId}
use Rattle.nm_model.specs.declared.trace.Turn.{Turn}
use Rattle.nm_model.specs.Headline.{freed_by, words_after}
use Rattle.nm_model.specs.Memory.{named}
use Rattle.nm_model.specs.Paths.{Reached, at}
use Rattle.nm_steps.specs.declared.view.Stored.{Stored}
use Rattle.nm_epoch.specs.declared.collecting.Entry.{Entry}
use Rattle.nm_epoch.specs.declared.collecting.HeldQueue.{HeldQueue}
use Rattle.nm_calls.specs.Maps.{HoldsStores}
use Rattle.nm_calls.specs.OnceBack.{IsStoreOf}
use Rattle.nm_calls.specs.StoredLeaves.{LeafPlace}
use Rattle.nm_calls.specs.StoredLeaves.LeafPlace.{IsFreed, OnPath, Waits}

-- the node is at that place: at the end of a path from the root, with its birth; at an index of a
-- worker's queue in the report; or among the nodes that were freed, at an index
abbrev pub NodeEndsAt : Layout → List Turn → List HeldQueue → NodeId → LeafPlace → Type 0
NodeEndsAt L turns hs n (OnPath path) =
    (at (words_after L turns) path ≡ n.slot) × (named (words_after L turns) n.slot ≡ n)
NodeEndsAt L turns hs n (Waits w i) = (h : HeldQueue) × (e : Entry) × (slice_get hs w ≡ Some h)
    × (slice_get h.queue.items i ≡ Some e) × (e.node ≡ n)
NodeEndsAt L turns hs n (IsFreed i) = slice_get (freed_by turns) i ≡ Some n

-- the node is at exactly one place
pub record NodeEndsOnce (L : Layout) (turns : List Turn) (hs : List HeldQueue) (n : NodeId) : Type 0 where
  pub place : LeafPlace
  pub here : NodeEndsAt L turns hs n place
  pub only : (other : LeafPlace) → NodeEndsAt L turns hs n other → other ≡ place

-- each node in a slot above 5 to which a path from the root has led at some moment is at exactly one
-- place
abbrev pub EachReachedNodeEndsOnce : Layout → List Turn → List HeldQueue → Type 0
EachReachedNodeEndsOnce L turns queues = (so_far rest : List Turn) → turns ≡ so_far ++ rest
    → (x : ℕ) → 6 ≤ x → x ≤ L.nodes → Reached (words_after L so_far) x
    → NodeEndsOnce L turns queues (named (words_after L so_far) x)

-- each leaf that was linked with a value is at exactly one place
abbrev pub EachStoredValueEndsOnce : Layout → List Turn → List HeldQueue → Type 0
EachStoredValueEndsOnce L turns queues = (was : List Turn) (stores : List Stored)
    → HoldsStores L was turns stores → (x : Stored) → Contains stores x → (leaf : NodeId)
    → IsStoreOf L turns x leaf → NodeEndsOnce L turns queues leaf
