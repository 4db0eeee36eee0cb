-- What a walk that has ended shows, for any key and under any pin, with or without a call: whether
-- its key was in the set at a moment under the pin.
use Rattle.std.specs.Prelude.{◌≡◌, ℕ, ◌==◌, ◌<◌, ◌≤◌, Bool, List, [], ◌++◌, length, None, All}
use Rattle.nm_edge.specs.Layouts.{Layout}
use Rattle.nm_edge.specs.declared.edge.Side.{Side}
use Rattle.nm_model.specs.declared.event.Event.{Event}
use Rattle.nm_model.specs.declared.event.Op.TheVariants.{Has}
use Rattle.nm_model.specs.Memory.{infinity_1}
use Rattle.nm_model.specs.Walks.{Entry, since_pin, WalkEnds}
use Rattle.nm_model.specs.Ordered.{ordered, after_in, trace_in}
use Rattle.nm_model.specs.Acts.{InSet, Gives}
use Rattle.nm_order.specs.Intervals.{HasKey}
use Rattle.nm_order.specs.Logs.{part_of, known_by}
use Rattle.nm_order.specs.Moments.{PinStands}
use Rattle.nm_order.specs.StalePaths.{HasPin, log_under_pin}

-- at a moment of the run, under a pin that lasts from then on, a plain set of the keys of the
-- reached leaves gives this answer for k (O'Hearn and others)
pub record WasSoUnderPin (L : Layout) (turns : List (ℕ × Event)) (w k : ℕ)
    (answer : Bool) : Type 0 where
  pub before : List (ℕ × Event)
  pub since : List (ℕ × Event)
  pub is_run : turns ≡ before ++ since
  pub pinned : HasPin (after_in (ordered L) before) w
  pub stands : PinStands w (trace_in (after_in (ordered L) before) since)
  pub gives : Gives (InSet (after_in (ordered L) before).state.memory) Has k answer

-- so it was at such a moment after the first turns of the run
abbrev pub WasSoLater : Layout → List (ℕ × Event) → List (ℕ × Event) → ℕ → ℕ → Bool → Type 0
WasSoLater L past turns w k answer =
    (was : WasSoUnderPin L turns w k answer) × (length past < length was.before)

-- the leaf at which a walk in a worker's log after its pin ended shows by its key whether the
-- walk's key was in the set at a moment under the pin. The key may be any below the key of slot 2
-- (O'Hearn and others)
abbrev pub AnyWalkTells : Layout → List (ℕ × Event) → Type 0
AnyWalkTells L turns = (u k slot parent : ℕ) (side : Side) (v : ℕ) → k < infinity_1
    → WalkEnds k (log_under_pin L turns u) slot parent side v → WasSoUnderPin L turns u k (v == k)

-- at a moment that is later than an earlier run, and at which the worker was pinned, a plain set of
-- the keys of the reached leaves gives this answer for k (O'Hearn and others)
pub record WasSoSince (L : Layout) (past turns : List (ℕ × Event)) (w k : ℕ)
    (answer : Bool) : Type 0 where
  pub before : List (ℕ × Event)
  pub since : List (ℕ × Event)
  pub is_run : turns ≡ before ++ since
  pub later : length past < length before
  pub pinned : HasPin (after_in (ordered L) before) w
  pub gives : Gives (InSet (after_in (ordered L) before).state.memory) Has k answer

-- for a worker that was not pinned at the end of an earlier run: the moment of a walk that has
-- ended in its log after its pin is later than that run (O'Hearn and others)
abbrev pub WalksTellOfTheirPin : Type 0
WalksTellOfTheirPin = (L : Layout) → 5 ≤ L.nodes → (w : ℕ) → w < L.workers
    → (past more : List (ℕ × Event)) → All (λ t. HasKey t.1) (past ++ more)
    → (known_by L w (part_of w (trace_in (ordered L) past))).brief.pin ≡ None → (log : List Entry)
    → part_of w (trace_in (ordered L) (past ++ more)) ≡ log
    → (k slot parent : ℕ) (side : Side) (v : ℕ) → k < infinity_1
    → WalkEnds k (since_pin [] log) slot parent side v
    → WasSoSince L past (past ++ more) w k (v == k)
