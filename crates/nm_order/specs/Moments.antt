-- Moments of an ordered run, and the turns in which a worker's pin lasts.
use Rattle.std.specs.Prelude.{◌≡◌, ℕ, ◌≤◌, false, List, All}
use Rattle.std.specs.List.{list_any}
use Rattle.nm_edge.specs.Layouts.{Layout}
use Rattle.nm_model.specs.declared.event.Event.{Event}
use Rattle.nm_model.specs.declared.trace.Turn.{Turn}
use Rattle.nm_model.specs.Walks.{log_of, begins_anew}
use Rattle.nm_order.specs.Intervals.{HasKey}

-- holds of the layout and the turns of every ordered run
abbrev pub OfEachOrderedRun : (Layout → List (ℕ × Event) → Type 0) → Type 0
OfEachOrderedRun P = (L : Layout) → 5 ≤ L.nodes → (turns : List (ℕ × Event))
    → All (λ t. HasKey t.1) turns → P L turns

-- in these turns the worker confirms no pin and leaves none
abbrev pub PinStands : ℕ → List Turn → Type 0
PinStands u turns = list_any begins_anew (log_of u turns) ≡ false
