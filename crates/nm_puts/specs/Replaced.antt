-- A value that was replaced, by the words, the turns and the stores of a map.
use Rattle.std.specs.Prelude.{◌≡◌, ◌≤◌, ℕ, List, [], ◌∷◌, ◌++◌, length, All, Contains, Some}
use Rattle.nm_edge.specs.Layouts.{Layout, IsLayout}
use Rattle.nm_edge.specs.declared.edge.Side.{Side}
use Rattle.nm_edge.specs.declared.node.NodeId.{NodeId}
use Rattle.nm_model.specs.declared.event.Event.{Event}
use Rattle.nm_model.specs.declared.event.Event.TheVariants.{Swap}
use Rattle.nm_model.specs.declared.event.Op.TheVariants.{Insert}
use Rattle.nm_model.specs.declared.reply.Reply.TheVariants.{Cut}
use Rattle.nm_model.specs.declared.trace.Turn.{Turn}
use Rattle.nm_model.specs.Acts.{Act}
use Rattle.nm_model.specs.Headline.{words_after}
use Rattle.nm_model.specs.Histories.{IsHistory, call_begun, called_in}
use Rattle.nm_model.specs.Memory.{named}
use Rattle.nm_model.specs.Ordered.{HasKey, ordered, trace_in}
use Rattle.nm_order.specs.Logs.{part_of}
use Rattle.nm_steps.specs.declared.view.Stored.{Stored}
use Rattle.nm_steps.specs.Rules.{Extends, ExtendsStores, IsStored, answered_turn}
use Rattle.nm_steps.specs.Steps.{PassView}
use Rattle.nm_calls.specs.MapHistories.{IsMapHistory, IsPutOf, MapAct}
use Rattle.nm_calls.specs.Maps.{HoldsStores, IsInMap}

-- the turn is a swap of this leaf for a new one, which the worker won
pub record IsWonSwapOf (w : ℕ) (leaf : NodeId) (new : ℕ) (swap : Turn) : Type 0 where
  pub parent : ℕ
  pub side : Side
  pub is : swap ≡ answered_turn w (Swap parent side leaf.slot new) (Cut (leaf ∷ []))

-- the worker replaced the value `old` of the key by the value `new`: its call to insert the key won a
-- swap after the turns `was`. Right before the swap the map had the key with the old value, in the
-- leaf that the swap cut off, which is its slot with its birth. Right after it the map has the key with
-- the new value, in the new leaf. The worker stored this value for it after its last step before
-- the swap
pub record WasReplaced (L : Layout) (was now : List Turn) (stores : List Stored) (w k old new : ℕ)
    : Type 0 where
  pub so_far : List Turn
  pub swap : Turn
  pub rest : List Turn
  pub are : now ≡ so_far ++ swap ∷ rest
  pub later : length was ≤ length so_far
  pub pin : ℕ
  pub call : call_begun w so_far ≡ Some (record { pin = pin; op = Insert; key = k })
  pub found : IsInMap L so_far stores k old
  pub left : IsInMap L (so_far ++ swap ∷ []) stores k new
  pub won : IsWonSwapOf w (named (words_after L so_far) found.slot) left.slot swap
  pub stored : IsStored stores w (length (part_of w so_far)) left.slot
  pub same : stored.stored.value ≡ new
  pub holds : HoldsStores L (so_far ++ swap ∷ []) now stores

-- from what p had seen to what q has seen, the worker so replaced the value of the key
abbrev pub HasReplaced : PassView → PassView → ℕ → ℕ → ℕ → Type 0
HasReplaced p q k old new =
    WasReplaced q.view.layout p.view.past q.view.past q.view.stores q.view.number k old new

-- ---- the put of a history

-- one of these acts is the put of the swap. It is of the same call, finds the old value, and leaves
-- the new one
pub record HasItsPut (L : Layout) (stores : List Stored) (valued : List MapAct) (was now : List Turn)
    (seen : List Stored) (w k old new : ℕ) (r : WasReplaced L was now seen w k old new) : Type 0 where
  pub act : MapAct
  pub among : Contains valued act
  pub is : IsPutOf L stores r.so_far w r.found.slot r.left.slot r.swap act
  pub call : called_in act.act ≡ record { pin = r.pin; op = Insert; key = k }
  pub finds : act.value ≡ old
  pub leaves : act.left ≡ Some new

-- if a call has replaced a value, each history of the map has its put, by stores that go on from
-- those that the worker had seen
abbrev pub HaveTheirPuts : Layout → List Turn → Type 0
HaveTheirPuts L turns =
    (from : List Turn) (stores : List Stored) → (held : HoldsStores L from turns stores)
    → (was now : List Turn) (seen : List Stored) (w k old new : ℕ)
    → (r : WasReplaced L was now seen w k old new)
    → Extends held.until now → ExtendsStores stores seen
    → (acts : List Act) → IsHistory L held.until acts → (valued : List MapAct)
    → IsMapHistory L held.until stores acts valued
    → HasItsPut L stores valued was now seen w k old new r

-- this holds of the turns of each run
abbrev pub ReplacedValuesHavePuts : Type 0
ReplacedValuesHavePuts = (L : Layout) → IsLayout L → (events : List (ℕ × Event))
    → All (λ t. HasKey t.1) events → HaveTheirPuts L (trace_in (ordered L) events)
