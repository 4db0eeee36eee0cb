-- Where the leaf is for which a value was stored: in the tree, waiting, or freed.
use Rattle.std.specs.Prelude.{◌≡◌, ℕ, List, Contains, Some, slice_get}
use Rattle.nm_edge.specs.Layouts.{Layout}
use Rattle.nm_edge.specs.declared.edge.Side.{Side}
use Rattle.nm_edge.specs.declared.node.NodeId.{NodeId}
use Rattle.nm_model.specs.declared.trace.Turn.{Turn}
use Rattle.nm_model.specs.Headline.{Headline, freed_by, waits_of, words_after}
use Rattle.nm_model.specs.Memory.{named}
use Rattle.nm_model.specs.Paths.{at}
use Rattle.nm_steps.specs.declared.view.Stored.{Stored}
use Rattle.nm_calls.specs.Maps.{HoldsStores}
use Rattle.nm_calls.specs.OnceBack.{IsStoreOf}

-- a place of a leaf: at the end of a path from the root, at an index of those of a worker's cuts that
-- wait, or among the nodes that were freed, at an index
pub data LeafPlace : Type 0 where
  OnPath : List Side → LeafPlace
  Waits : ℕ → ℕ → LeafPlace
  IsFreed : ℕ → LeafPlace

-- after these turns the leaf is in that place. In the tree its slot has its birth
abbrev pub LeafIsAt : Layout → List Turn → NodeId → LeafPlace → Type 0
LeafIsAt L turns n (OnPath path) = (at (words_after L turns) path ≡ n.slot) × (named (words_after L turns) n.slot ≡ n)
LeafIsAt L turns n (Waits w i) = slice_get (waits_of w turns) i ≡ Some n
LeafIsAt L turns n (IsFreed i) = slice_get (freed_by turns) i ≡ Some n

-- the leaf is in exactly one place
pub record IsAtOnePlace (L : Layout) (turns : List Turn) (n : NodeId) : Type 0 where
  pub place : LeafPlace
  pub here : LeafIsAt L turns n place
  pub only : (there : LeafPlace) → LeafIsAt L turns n there → there ≡ place

-- in all turns with the headline and with stores that hold, the leaf for which a value was stored is in
-- exactly one place. So the value comes back by one free, or it waits, or it is in the map
abbrev pub StoredValuesAreAtOnePlace : Type 0
StoredValuesAreAtOnePlace = (L : Layout) (turns : List Turn) → Headline L turns → (was : List Turn)
    (stores : List Stored) → HoldsStores L was turns stores → (x : Stored) → Contains stores x
    → (leaf : NodeId) → IsStoreOf L turns x leaf → IsAtOnePlace L turns leaf

-- in all turns with the headline and with stores that hold, a leaf has one store. So one free gives back
-- one stored value
abbrev pub LeavesHaveOneStore : Type 0
LeavesHaveOneStore = (L : Layout) (turns : List Turn) → Headline L turns → (was : List Turn)
    (stores : List Stored) → HoldsStores L was turns stores → (leaf : NodeId) (x y : Stored)
    → Contains stores x → Contains stores y → IsStoreOf L turns x leaf → IsStoreOf L turns y leaf
    → x ≡ y
