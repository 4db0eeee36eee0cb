-- A value that a worker got under its pin comes back after the worker has unpinned.
use Rattle.std.specs.Prelude.{◌≡◌, ℕ, List, ◌++◌, Contains, Some}
use Rattle.nm_edge.specs.Layouts.{Layout}
use Rattle.nm_edge.specs.declared.node.NodeId.{NodeId}
use Rattle.nm_model.specs.declared.trace.Turn.{Turn}
use Rattle.nm_model.specs.Headline.{HasLeft, Headline, IsPinned, freed_by, words_after}
use Rattle.nm_model.specs.Memory.{named}
use Rattle.nm_steps.specs.declared.view.Stored.{Stored}
use Rattle.nm_calls.specs.Maps.{IsInMap, WasMappedUnderPin}
use Rattle.nm_calls.specs.OnceBack.{ComesBack, IsStoreOf}

-- the leaf that had the value which the worker got, with the birth that it had then
abbrev pub got_leaf : {L : Layout} {was turns : List Turn} {stores : List Stored} {w k v : ℕ}
    → WasMappedUnderPin L was turns stores w k (Some v) → NodeId
got_leaf {L} got = named (words_after L got.so_far) got.gives.slot

-- in all turns with the headline at whose end a worker is pinned since it got a value, no worker has
-- freed the leaf that had the value
abbrev pub GotLeavesAreNotFreed : Type 0
GotLeavesAreNotFreed = (L : Layout) (turns : List Turn) → Headline L turns → (was : List Turn)
    → (stores : List Stored) (w k v : ℕ) (got : WasMappedUnderPin L was turns stores w k (Some v))
    → Contains (freed_by turns) (got_leaf got) → ⊥

-- so the value that was stored for this leaf has not come back to any worker
abbrev pub GotValuesStayOut : Type 0
GotValuesStayOut = (L : Layout) (turns : List Turn) → Headline L turns → (was : List Turn)
    → (stores : List Stored) (w k v : ℕ) (got : WasMappedUnderPin L was turns stores w k (Some v))
    → (x : Stored)
    → IsStoreOf L turns x (got_leaf got) → ComesBack L turns x → ⊥

-- ---- under the pin of any worker

-- the leaf in which the map has the key, with the birth that it has then
abbrev pub leaf_of : {L : Layout} {turns : List Turn} {stores : List Stored} {k v : ℕ}
    → IsInMap L turns stores k v → NodeId
leaf_of {L} {turns} is = named (words_after L turns) is.slot

-- in all turns with the headline, a worker that was pinned at a moment has not unpinned since. At that
-- moment the map had a key in a leaf. No worker has freed this leaf, whichever got its value or
-- removed its key
abbrev pub GuardedLeavesAreNotFreed : Type 0
GuardedLeavesAreNotFreed = (L : Layout) (turns : List Turn) → Headline L turns
    → (so_far rest : List Turn) → turns ≡ so_far ++ rest → (guard : ℕ) → IsPinned guard so_far
    → (HasLeft guard rest → ⊥) → (stores : List Stored) (k v : ℕ) (is : IsInMap L so_far stores k v)
    → Contains (freed_by turns) (leaf_of is) → ⊥

-- so the value that was stored for this leaf has not come back to any worker
abbrev pub GuardedValuesStayOut : Type 0
GuardedValuesStayOut = (L : Layout) (turns : List Turn) → Headline L turns
    → (so_far rest : List Turn) → turns ≡ so_far ++ rest → (guard : ℕ) → IsPinned guard so_far
    → (HasLeft guard rest → ⊥) → (stores : List Stored) (k v : ℕ) (is : IsInMap L so_far stores k v)
    → (x : Stored) → IsStoreOf L turns x (leaf_of is) → ComesBack L turns x → ⊥
