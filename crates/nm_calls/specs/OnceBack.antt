-- A stored value comes back once: by the free of the leaf for which it was stored.
use Rattle.std.specs.Prelude.{◌≡◌, ◌≢◌, ◌⊎◌, ℕ, List, ◌∷◌, ◌++◌, length, All, Contains}
use Rattle.nm_edge.specs.Layouts.{Layout, IsLayout}
use Rattle.nm_edge.specs.declared.edge.Side.{Side}
use Rattle.nm_edge.specs.declared.node.NodeId.{NodeId}
use Rattle.nm_model.specs.declared.event.Event.{Event}
use Rattle.nm_model.specs.declared.event.Event.TheVariants.{Link, Swap}
use Rattle.nm_model.specs.declared.reply.Reply.TheVariants.{Cut, Linked}
use Rattle.nm_model.specs.declared.trace.Turn.{Turn}
use Rattle.nm_model.specs.Headline.{Headline, nodes_freed_of, words_after}
use Rattle.nm_model.specs.Memory.{Memory, child, named}
use Rattle.nm_model.specs.Ordered.{HasKey, ordered, trace_in}
use Rattle.nm_order.specs.Logs.{part_of}
use Rattle.nm_steps.specs.declared.view.Stored.{Stored}
use Rattle.nm_steps.specs.Rules.{answered_turn}
use Rattle.nm_calls.specs.HandedBack.{WasCutWith}
use Rattle.nm_calls.specs.Maps.{HoldsStores}

-- the turn is a link of this leaf that the worker won: the leaf is the child of the new internal node
-- beside the node that was there, with the birth in its word
pub record LinksIn (m : Memory) (w : ℕ) (put : Turn) (leaf : NodeId) : Type 0 where
  pub parent : ℕ
  pub side : Side
  pub old : ℕ
  pub new : ℕ
  pub node : NodeId
  pub is_link : put ≡ answered_turn w (Link parent side old new) (Linked node)
  pub on : Side
  pub beside : child m new on ≢ old
  pub is : leaf ≡ named m (child m new on)

-- the turn is a swap that the worker won, by which this leaf took the place of another one
pub record SwapsIn (m : Memory) (w : ℕ) (put : Turn) (leaf : NodeId) : Type 0 where
  pub parent : ℕ
  pub side : Side
  pub old : ℕ
  pub nodes : List NodeId
  pub is_swap : put ≡ answered_turn w (Swap parent side old leaf.slot) (Cut nodes)
  pub is : leaf ≡ named m leaf.slot

-- the worker has put this leaf into the tree, by a link or by a swap
pub record HasPutIn (L : Layout) (turns : List Turn) (w : ℕ) (leaf : NodeId) : Type 0 where
  pub before : List Turn
  pub put : Turn
  pub since : List Turn
  pub are : turns ≡ before ++ put ∷ since
  pub way : LinksIn (words_after L before) w put leaf ⊎ SwapsIn (words_after L before) w put leaf

-- the value was stored for this leaf: its worker put the leaf in, and stored the value for the leaf's
-- slot after its last step before that
pub record IsStoreOf (L : Layout) (turns : List Turn) (x : Stored) (leaf : NodeId) : Type 0 where
  pub put_in : HasPutIn L turns x.worker leaf
  pub own : x.own ≡ length (part_of x.worker put_in.before)
  pub slot : x.slot ≡ leaf.slot

-- the stored value comes back: a turn frees the leaf for which it was stored
pub record ComesBack (L : Layout) (turns : List Turn) (x : Stored) : Type 0 where
  pub leaf : NodeId
  pub stored : IsStoreOf L turns x leaf
  pub so_far : List Turn
  pub free : Turn
  pub rest : List Turn
  pub are : turns ≡ so_far ++ free ∷ rest
  pub frees : Contains (nodes_freed_of free.outcome) leaf

-- in all turns with the headline, each stored value comes back at most once: by one turn, which frees
-- one leaf
abbrev pub ValuesComeBackOnce : Type 0
ValuesComeBackOnce = (L : Layout) (turns : List Turn) → Headline L turns → (x : Stored)
    → (one other : ComesBack L turns x) → (one.so_far ≡ other.so_far) × (one.leaf ≡ other.leaf)

-- one of these values was stored for this leaf, and it is v
pub record WasStoredFor (L : Layout) (turns : List Turn) (stores : List Stored) (leaf : NodeId) (v : ℕ) : Type 0 where
  pub stored : Stored
  pub there : Contains stores stored
  pub of : IsStoreOf L turns stored leaf
  pub is : stored.value ≡ v

-- in each run, the value that a leaf had when it was cut off is one that was stored for this leaf
abbrev pub CutValuesWereStored : Type 0
CutValuesWereStored = (L : Layout) → IsLayout L → (events : List (ℕ × Event))
    → All (λ t. HasKey t.1) events → (stores : List Stored) (n : NodeId) (v : ℕ)
    → WasCutWith L (trace_in (ordered L) events) stores n v
    → WasStoredFor L (trace_in (ordered L) events) stores n v

-- in each run, with stores that hold, the value that a leaf had right before its cut is the one that
-- was stored for the leaf. A collection hands out the former
abbrev pub ValuesComeBackAsStored : Type 0
ValuesComeBackAsStored = (L : Layout) → IsLayout L → (events : List (ℕ × Event))
    → All (λ t. HasKey t.1) events → (from : List Turn) (stores : List Stored)
    → HoldsStores L from (trace_in (ordered L) events) stores → (n : NodeId) (v : ℕ)
    → WasCutWith L (trace_in (ordered L) events) stores n v → (x : Stored) → Contains stores x
    → IsStoreOf L (trace_in (ordered L) events) x n → v ≡ x.value
