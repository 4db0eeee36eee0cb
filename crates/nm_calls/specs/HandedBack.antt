-- Values that come back once the leaf that had them is freed.
use Rattle.std.specs.Prelude.{◌≡◌, ◌≤◌, ℕ, true, false, List, ◌∷◌, ◌++◌, length, Contains}
use Rattle.nm_edge.specs.Layouts.{Layout}
use Rattle.nm_edge.specs.declared.node.NodeId.{NodeId}
use Rattle.nm_model.specs.declared.trace.Turn.{Turn}
use Rattle.nm_model.specs.Headline.{nodes_cut_of, words_after}
use Rattle.nm_model.specs.Memory.{is_leaf, node}
use Rattle.nm_model.specs.Paths.{Reached}
use Rattle.nm_steps.specs.declared.view.Stored.{Stored}
use Rattle.nm_steps.specs.Rules.{ExtendsStores}
use Rattle.nm_calls.specs.Maps.{HoldsStores, value_at}

-- a turn cut the node off, which is none of the fixed ones. Right before it a path from the root
-- reached the node, which was a leaf, and the map had the key of the leaf with the value v. It had it
-- by the first of these stores, which have the store of each leaf that was linked before the cut
-- (`stored`)
pub record WasCutWith (L : Layout) (turns : List Turn) (stores : List Stored) (n : NodeId) (v : ℕ) : Type 0 where
  pub before : List Turn
  pub cut : Turn
  pub since : List Turn
  pub are : turns ≡ before ++ cut ∷ since
  pub cuts : Contains (nodes_cut_of cut.outcome) n
  pub high : 6 ≤ n.slot
  pub reached : Reached (words_after L before) n.slot
  pub leaf : is_leaf (node (words_after L before) n.slot) ≡ true
  pub first : List Stored
  pub extends : ExtendsStores stores first
  pub stored : HoldsStores L before turns first
  pub has_value : value_at (length before) first n.slot ≡ v

-- a turn cut the node off, which is none of the fixed ones. Right before it a path from the root
-- reached the node, which was no leaf
pub record WasCutInner (L : Layout) (turns : List Turn) (n : NodeId) : Type 0 where
  pub before : List Turn
  pub cut : Turn
  pub since : List Turn
  pub are : turns ≡ before ++ cut ∷ since
  pub cuts : Contains (nodes_cut_of cut.outcome) n
  pub high : 6 ≤ n.slot
  pub reached : Reached (words_after L before) n.slot
  pub inner : is_leaf (node (words_after L before) n.slot) ≡ false
