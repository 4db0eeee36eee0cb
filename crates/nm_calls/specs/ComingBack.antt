-- When a value comes back: once, and after each worker has unpinned that got it under its pin.
use Rattle.std.specs.Prelude.{◌≡◌, ℕ, List, ◌∷◌, ◌++◌, Contains, Some}
use Rattle.nm_edge.specs.Layouts.{Layout}
use Rattle.nm_edge.specs.declared.node.NodeId.{NodeId}
use Rattle.nm_model.specs.declared.trace.Turn.{Turn}
use Rattle.nm_model.specs.Headline.{HasLeft, Headline, nodes_cut_of, nodes_freed_of}
use Rattle.nm_steps.specs.declared.view.Stored.{Stored}
use Rattle.nm_calls.specs.Maps.{WasMappedUnderPin}

-- in all turns with the headline, no two turns free one node. So a leaf hands out its value once
abbrev pub NodesAreFreedOnce : Type 0
NodesAreFreedOnce = (L : Layout) (turns : List Turn) → Headline L turns
    → (before between rest : List Turn) (one other : Turn) (n : NodeId)
    → turns ≡ before ++ one ∷ (between ++ other ∷ rest)
    → Contains (nodes_freed_of one.outcome) n → Contains (nodes_freed_of other.outcome) n → ⊥

-- a worker got a value under its pin. In all turns with the headline that go on from that moment,
-- if one turn cuts off the leaf that had the value, and a later one frees it, the worker has
-- unpinned between that moment and the free
abbrev pub PinnedValuesStayOut : Type 0
PinnedValuesStayOut = (L : Layout) (turns : List Turn) → Headline L turns → (was now : List Turn)
    → (stores : List Stored) (w k v : ℕ) (got : WasMappedUnderPin L was now stores w k (Some v))
    → (mid between rest : List Turn) (cut free : Turn) (n : NodeId) → n.slot ≡ got.gives.slot
    → turns ≡ got.so_far ++ (mid ++ cut ∷ (between ++ free ∷ rest))
    → Contains (nodes_cut_of cut.outcome) n → Contains (nodes_freed_of free.outcome) n
    → HasLeft w (mid ++ cut ∷ between)
