-- A leaf keeps its value until a turn cuts it off.
use Rattle.std.specs.Prelude.{◌≡◌, ◌<◌, ℕ, List, [], ◌∷◌, ◌++◌, All, Contains, Ok}
use Rattle.nm_edge.specs.Keys.{IsKey}
use Rattle.nm_edge.specs.Layouts.{Layout, IsLayout}
use Rattle.nm_model.specs.declared.event.Event.{Event}
use Rattle.nm_edge.specs.declared.node.NodeId.{NodeId}
use Rattle.nm_model.specs.declared.reply.Reply.TheVariants.{Cut}
use Rattle.nm_model.specs.declared.trace.Turn.{Turn}
use Rattle.nm_model.specs.Headline.{IsWonSwap, nodes_cut_of, slots_of, words_after}
use Rattle.nm_model.specs.Memory.{named, node}
use Rattle.nm_model.specs.Ordered.{HasKey, ordered, trace_in}
use Rattle.nm_steps.specs.declared.view.Stored.{Stored}
use Rattle.nm_steps.specs.Rules.{Extends, ExtendsStores}
use Rattle.nm_calls.specs.Maps.{HoldsStores, IsInMap, WasPut, WasTaken}

-- none of these turns cuts off a node in this slot
abbrev pub NoneCuts : List Turn → ℕ → Type 0
NoneCuts turns s = (before since : List Turn) (t : Turn) → turns ≡ before ++ t ∷ since
    → Contains (slots_of (nodes_cut_of t.outcome)) s → ⊥

-- the turn after these is no won swap that takes out a leaf with the key
abbrev pub NoneSwapsOut : Layout → List Turn → Turn → ℕ → Type 0
NoneSwapsOut L so_far t k = (ns : List NodeId) (s : IsWonSwap (words_after L so_far) t.event ns)
    → t.outcome ≡ Ok (Cut ns) → (node (words_after L so_far) s.old).key ≡ k → ⊥

-- the map still has the key with the value after these turns, in the same leaf
pub record StaysInMap (L : Layout) (so_far mid : List Turn) (stores : List Stored) (k v : ℕ)
    (was : IsInMap L so_far stores k v) : Type 0 where
  pub now : IsInMap L (so_far ++ mid) stores k v
  pub same : now.slot ≡ was.slot

-- in each run, a leaf in the map stays there with its value until a turn cuts it off
abbrev pub LeavesKeepTheirValues : Type 0
LeavesKeepTheirValues = (L : Layout) → IsLayout L → (events : List (ℕ × Event))
    → All (λ t. HasKey t.1) events → (so_far mid rest : List Turn)
    → trace_in (ordered L) events ≡ so_far ++ (mid ++ rest) → (stores : List Stored)
    → (from : List Turn) → HoldsStores L from (trace_in (ordered L) events) stores → (k v : ℕ)
    → (was : IsInMap L so_far stores k v) → NoneCuts mid was.slot
    → StaysInMap L so_far mid stores k v was

-- in each run, if a worker put a key into the map with a value, the map has the key with this
-- value, and with no other, until a turn cuts off the leaf. This holds by the stores that the
-- worker had seen then, and by more
abbrev pub PutValuesStay : Type 0
PutValuesStay = (L : Layout) → IsLayout L → (events : List (ℕ × Event))
    → All (λ t. HasKey t.1) events → (was first : List Turn) (seen stores : List Stored) (w k v : ℕ)
    → w < L.workers → (put : WasPut L was first seen w k v) → ExtendsStores stores seen
    → (from : List Turn) → HoldsStores L from (trace_in (ordered L) events) stores → (mid rest : List Turn)
    → trace_in (ordered L) events ≡ (put.so_far ++ put.link ∷ []) ++ (mid ++ rest)
    → NoneCuts mid put.is.slot → (found : ℕ)
    → IsInMap L ((put.so_far ++ put.link ∷ []) ++ mid) stores k found → found ≡ v

-- in each run, if a delete has taken a value, the map has the key with this value right before the turn
-- that cuts off the leaf which the delete has flagged
abbrev pub TakenValuesAreCut : Type 0
TakenValuesAreCut = (L : Layout) → IsLayout L → (events : List (ℕ × Event))
    → All (λ t. HasKey t.1) events → (was now : List Turn) (stores : List Stored) (w k v : ℕ)
    → (took : WasTaken L was now stores w k v) → Extends (trace_in (ordered L) events) now
    → (before since : List Turn) (cut : Turn) → trace_in (ordered L) events ≡ before ++ cut ∷ since
    → Contains (nodes_cut_of cut.outcome) (named (words_after L took.so_far) took.is.slot)
    → IsInMap L before took.first k v

-- in each run, what the map has at a moment by stores that hold from then on, it has by all later
-- stores. So what several workers have seen is of one map
abbrev pub ValuesAreByAllStores : Type 0
ValuesAreByAllStores = (L : Layout) → IsLayout L → (events : List (ℕ × Event))
    → All (λ t. HasKey t.1) events → (so_far rest : List Turn)
    → trace_in (ordered L) events ≡ so_far ++ rest → (first stores : List Stored)
    → HoldsStores L so_far (trace_in (ordered L) events) first → ExtendsStores stores first
    → (from : List Turn) → HoldsStores L from (trace_in (ordered L) events) stores → (k v : ℕ)
    → IsKey k → IsInMap L so_far first k v → IsInMap L so_far stores k v
