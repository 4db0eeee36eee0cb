-- Values that have come back, one that has not, and one that is left when its map is closed.
use Rattle.std.specs.Prelude.{◌≢◌, ℕ, List, Contains, Some}
use Rattle.nm_edge.specs.declared.node.NodeId.{NodeId}
use Rattle.nm_model.specs.declared.trace.Turn.{Turn}
use Rattle.nm_model.specs.Headline.{freed_by}
use Rattle.nm_steps.specs.declared.view.Stored.{Stored}
use Rattle.nm_steps.specs.declared.view.View.{View}
use Rattle.nm_calls.specs.GotValues.{got_leaf}
use Rattle.nm_calls.specs.HandedBack.{WasCutWith}
use Rattle.nm_calls.specs.Maps.{HoldsStores, IsInMap, WasMappedUnderPin}
use Rattle.nm_calls.specs.OnceBack.{ComesBack, IsStoreOf}
use Rattle.nm_tree.specs.Running.{IsFreedInGrace}
use Rattle.nm_set.specs.Seats.{SetView}

-- a leaf with this value was cut off, and is freed. Each worker that was pinned at the cut has unpinned
-- since
pub record HasComeBack (v : View) (value : ℕ) : Type 0 where
  pub node : NodeId
  pub cut : WasCutWith v.layout v.past v.stores node value
  pub freed : IsFreedInGrace v node

-- a reader got the value under the key after the turns `was`, under the pin that it still has. In all that it has
-- seen, the leaf that had the value is not freed, and no value that was stored for this leaf has come
-- back. Another worker, whom the reader has heard, got these values back, each of another leaf
pub record HasNotComeBack (reader : View) (k v : ℕ) (other : View) (back : List ℕ) : Type 0 where
  pub was : List Turn
  pub stores : List Stored
  pub got : WasMappedUnderPin reader.layout was reader.past stores reader.number k (Some v)
  pub kept : Contains (freed_by reader.past) (got_leaf got) → ⊥
  pub out : (x : Stored) → IsStoreOf reader.layout reader.past x (got_leaf got)
      → ComesBack reader.layout reader.past x → ⊥
  pub others : (u : ℕ) → Contains back u → (c : HasComeBack other u) × (c.node ≢ got_leaf got)

-- after the turns of its close a map has the key with the value, by all stores of its run
pub record IsLeftIn (s : SetView) (k v : ℕ) : Type 0 where
  pub turns : List Turn
  pub stores : List Stored
  pub holds : HoldsStores s.tree.layout turns turns stores
  pub is : IsInMap s.tree.layout turns stores k v
