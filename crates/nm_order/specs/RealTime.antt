-- The order of calls in time and of their acts in a history; each call has one act.
use Rattle.std.specs.Prelude.{◌≡◌, ℕ, ◌<◌, List, ◌∷◌, ◌++◌, length}
use Rattle.nm_edge.specs.Layouts.{Layout}
use Rattle.nm_model.specs.declared.event.Event.{Event}
use Rattle.nm_model.specs.declared.event.Event.TheVariants.{LeaveWith}
use Rattle.nm_model.specs.Ordered.{ordered, after_in}
use Rattle.nm_order.specs.Exchanges.{MayAnswer}
use Rattle.nm_model.specs.Acts.{Act, IsAmong}
use Rattle.nm_order.specs.History.{SameCall, pin_of, IsRunHistory}

-- one act comes before another (Herlihy and Wing, section 2, real-time order)
pub record Precedes (acts : List Act) (a b : Act) : Type 0 where
  pub front : List Act
  pub between : List Act
  pub back : List Act
  pub are : acts ≡ front ++ (a ∷ (between ++ b ∷ back))

-- the call of an act was answered by a turn whose number is below n (Herlihy and Wing, section 2,
-- real-time order)
pub record EndsBefore (L : Layout) (turns : List (ℕ × Event)) (a : Act) (n : ℕ) : Type 0 where
  pub before : List (ℕ × Event)
  pub since : List (ℕ × Event)
  pub is_run : turns ≡ before ++ (a.worker, LeaveWith a.answer) ∷ since
  pub may : MayAnswer (after_in (ordered L) before) a.worker a.op a.key a.answer
  pub is_pin : a.pin ≡ pin_of L before a.worker
  pub early : length before < n

-- calls that do not overlap keep their order: one that was answered before the other's pin was
-- confirmed comes first; and the calls of each worker keep their order (Herlihy and Wing, section
-- 2, real-time order)
pub record KeepsRealTime (L : Layout) (turns : List (ℕ × Event)) (acts : List Act) : Type 0 where
  pub apart : (a b : Act) → IsAmong acts a → IsAmong acts b → EndsBefore L turns a b.pin
      → Precedes acts a b
  pub own : (a b : Act) → IsAmong acts a → IsAmong acts b → a.worker ≡ b.worker → a.pin < b.pin
      → Precedes acts a b

-- a history has one act for each call
abbrev pub HistoriesHaveOneActACall : Layout → List (ℕ × Event) → Type 0
HistoriesHaveOneActACall L turns =
    (acts : List Act) → IsRunHistory L turns acts → (a b : Act) → IsAmong acts a → IsAmong acts b
    → SameCall a b → a ≡ b

-- each history of a run keeps the real-time order
abbrev pub HistoriesKeepRealTime : Layout → List (ℕ × Event) → Type 0
HistoriesKeepRealTime L turns =
    (acts : List Act) → IsRunHistory L turns acts → KeepsRealTime L turns acts
