-- The close of a map: the value under each key that is left, and the values that wait.
use Rattle.std.specs.Prelude.{◌≡◌, ◌-◌, ◌≤◌, ℕ, zero, suc, nat_lt, Bool, true, false, List, [], ◌∷◌, ◌++◌, length, map, slice_get, slice_index, unwrap_or, All, AllPairs, Contains, Option, None, Some}
use Rattle.std.specs.List.{range_with_len}
use Rattle.nm_edge.specs.Layouts.{Layout}
use Rattle.nm_edge.specs.Words.{IsSlot, at_edge, word, words as all_words}
use Rattle.nm_edge.specs.declared.edge.Side.TheVariants.{Left}
use Rattle.nm_model.specs.declared.trace.Turn.{Turn}
use Rattle.nm_model.specs.Headline.{Headline, nodes_cut_of, words_after}
use Rattle.nm_model.specs.Memory.{Memory, is_leaf, node}
use Rattle.nm_model.specs.Paths.{Reached}
use Rattle.nm_steps.specs.declared.view.Stored.{Stored}
use Rattle.nm_steps.specs.Rules.{ComesBefore, ExtendsStores}
use Rattle.nm_steps.specs.Steps.{EndedWords, TreeView}
use Rattle.nm_epoch.specs.declared.collecting.Entry.{Entry}
use Rattle.nm_epoch.specs.declared.collecting.HeldQueue.{HeldQueue}
use Rattle.nm_calls.specs.HandedBack.{WasCutWith}
use Rattle.nm_calls.specs.Maps.{IsInMap, LinkedLeavesHaveValues, SwappedLeavesHaveValues, WasInHands, value_at}
use Rattle.nm_tree.specs.Closing.{SaysClosed}
use Rattle.nm_tree.specs.Workers.{WorkerView}

-- ---- the leaves of a closed tree

-- the slot is reached from the root, and is that of a leaf with the key
pub record IsLeafOf (L : Layout) (m : Memory) (k x : ℕ) : Type 0 where
  pub slot : IsSlot L x
  pub reached : Reached m x
  pub leaf : is_leaf (node m x) ≡ true
  pub has_key : (node m x).key ≡ k

-- each of these slots is that of a leaf with the key at its place
abbrev pub AreLeavesOf : Layout → Memory → List ℕ → List ℕ → Type 0
AreLeavesOf L m [] [] = Unit {0}
AreLeavesOf L m (k ∷ ks) (x ∷ xs) = IsLeafOf L m k x × AreLeavesOf L m ks xs
AreLeavesOf L m _ _ = ⊥

-- the value of a slot, if these are the values of slots 1 and on
abbrev pub value_in : List ℕ → ℕ → ℕ
value_in values x = slice_index values (x - 1)

-- the value of a slot, if there is such a slot
abbrev pub value_at_slot : List ℕ → ℕ → Option ℕ
value_at_slot values zero = None
value_at_slot values (suc x) = slice_get values x

-- `is_bare_in`, `bare_in`: whether the left edge of a slot leads to no node, by these words of a closed
-- tree; and that of each slot, from 1 on
abbrev pub is_bare_in : Layout → List ℕ → ℕ → Bool
is_bare_in L core x = nat_lt (slice_index core (word L (at_edge x Left))) 4

abbrev pub bare_in : Layout → List ℕ → List Bool
bare_in L core = map (is_bare_in L core) (range_with_len 1 L.nodes)

-- what clauses see of the values of a closed map: the value under each key, in the order of the
-- keys; and of each slot, from 1 on, its value, and whether its left edge leads to no node
pub record MapValuesView : Type 0 where
  pub keyed : List ℕ
  pub slots : List ℕ
  pub bare : List Bool

-- there is such a slot, and its left edge leads to no node
abbrev pub is_leaf_at : MapValuesView → ℕ → Bool
is_leaf_at v zero = false
is_leaf_at v (suc x) = unwrap_or (slice_get v.bare x) false

-- ---- what a closed map says

-- The node waits: one of these turns cut it off, and its slot is none of the fixed ones. Right before
-- that turn the slot was that of a leaf exactly if it is bare now. If so, it has the value that was
-- stored last for it before that turn
pub record Waits (L : Layout) (turns : List Turn) (stores : List Stored) (slots : List ℕ) (bare : List Bool)
    (e : Entry) : Type 0 where
  pub before : List Turn
  pub cut : Turn
  pub since : List Turn
  pub are : turns ≡ before ++ cut ∷ since
  pub cuts : Contains (nodes_cut_of cut.outcome) e.node
  pub slot : (6 ≤ e.node.slot) × (e.node.slot ≤ L.nodes)
  pub leaf : slice_get bare (e.node.slot - 1) ≡ Some (is_leaf (node (words_after L before) e.node.slot))
  pub value : is_leaf (node (words_after L before) e.node.slot) ≡ true
      → slice_get slots (e.node.slot - 1) ≡ Some (value_at (length before) stores e.node.slot)

-- What a caller learns from a closed map: what it learns from a closed tree, and the values, by all
-- stores of the map's run in their order. These extend what each worker that was given had seen of
-- stores. Each was made in a slot that was in its worker's hands. They have the store of each leaf that
-- was linked or swapped in. There is a value for each key of the report, and the map has each key with
-- the value at its place. Each slot has a value. That of a leaf which waits is the one that the leaf had
-- right before it was cut off. A node that waits is a leaf if its slot is bare
pub record SaysMapClosed (b : TreeView) (ws : List WorkerView) (queues : List HeldQueue)
    (kept keyed slots : List ℕ) (bare : List Bool) (free reached : ℕ) : Type 0 where
  pub says : SaysClosed b ws queues kept free reached
  pub stores : List Stored
  pub go_on : All (λ (w : WorkerView). ExtendsStores stores w.pass.view.stores) ws
  pub held : All (WasInHands b.layout says.turns) stores
  pub linked : LinkedLeavesHaveValues b.layout says.turns stores
  pub swapped : SwappedLeavesHaveValues says.turns stores
  pub order : AllPairs ComesBefore stores
  pub long : length slots ≡ b.layout.nodes
  pub as_many : length keyed ≡ length kept
  pub each : (i k v : ℕ) → slice_get kept i ≡ Some k → slice_get keyed i ≡ Some v
      → IsInMap b.layout says.turns stores k v
  pub waiting : All (λ h. All (Waits b.layout says.turns stores slots bare) h.queue.items) queues

-- what the end of a map leaves, with the slot of the leaf of each key, its words, and its sizes
pub record EndsMap (b : TreeView) (ws : List WorkerView) (queues : List HeldQueue)
    (kept leaves : List ℕ) (words : EndedWords) (layout : Layout) (free reached : ℕ) : Type 0 where
  pub all : layout.nodes ≡ length words.values
  pub laid : length words.core ≡ all_words layout
  pub within : All (λ (x : ℕ). (1 ≤ x) × (x ≤ length words.values)) leaves
  pub closed : SaysMapClosed b ws queues kept (map (value_in words.values) leaves) words.values
      (bare_in layout words.core) free reached

-- ---- what follows for each closed map

-- a path from the root reached each node that waits, right before the node was cut off
abbrev pub WaitingNodesWereReached : Type 0
WaitingNodesWereReached = (L : Layout) (turns : List Turn) (stores : List Stored) (slots : List ℕ) (bare : List Bool)
    (e : Entry) → Headline L turns → (w : Waits L turns stores slots bare e)
    → Reached (words_after L w.before) e.node.slot

-- each leaf that waits was cut off with the value that its slot has
abbrev pub WaitingLeavesHaveTheirValues : Type 0
WaitingLeavesHaveTheirValues = (b : TreeView) (ws : List WorkerView) (queues : List HeldQueue)
    (kept keyed slots : List ℕ) (bare : List Bool) (free reached : ℕ) (e : Entry)
    → (c : SaysMapClosed b ws queues kept keyed slots bare free reached)
    → Waits b.layout c.says.turns c.stores slots bare e → slice_get bare (e.node.slot - 1) ≡ Some true
    → (v : ℕ) → slice_get slots (e.node.slot - 1) ≡ Some v → WasCutWith b.layout c.says.turns c.stores e.node v
