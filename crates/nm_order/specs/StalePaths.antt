-- Stale paths, for any key and under any pin: the slots to which the walks in a worker's log came
-- after its pin was confirmed, with or without a call.
use Rattle.std.specs.Prelude.{◌≡◌, ℕ, ◌<◌, false, List, [], ◌++◌, length, drop, Some}
use Rattle.nm_edge.specs.Layouts.{Layout}
use Rattle.nm_edge.specs.declared.edge.Side.{Side}
use Rattle.nm_model.specs.declared.event.Event.{Event}
use Rattle.nm_model.specs.Memory.{node, is_leaf, infinity_1}
use Rattle.nm_model.specs.Paths.{Reached}
use Rattle.nm_model.specs.Runs.{of}
use Rattle.nm_model.specs.Walks.{Entry, log_of, since_pin, WalkComes, WalkReads}
use Rattle.nm_model.specs.Ordered.{Configuration, ordered, after_in, trace_in}
use Rattle.nm_order.specs.Intervals.{InInterval, key}
use Rattle.nm_order.specs.Moments.{PinStands}

-- the worker is pinned, with or without a call (Fraser, section 5, critical region)
abbrev pub HasPin : Configuration → ℕ → Type 0
HasPin c u = (epoch : ℕ) × ((of c.state u).brief.pin ≡ Some epoch)

-- the worker's log after its pin was confirmed, in an ordered run. If the worker is not pinned,
-- this has no walks, because slot 2 is looked at only under a pin (Fraser, section 5, critical
-- region)
abbrev pub log_under_pin : Layout → List (ℕ × Event) → ℕ → List Entry
log_under_pin L turns u = since_pin [] (log_of u (trace_in (ordered L) turns))

-- the same of the turns after the first turns of a run alone: what the worker looked at in them
-- before it confirmed or left a pin is left out
abbrev pub log_since : Layout → List (ℕ × Event) → List (ℕ × Event) → ℕ → List Entry
log_since L past turns u = since_pin [] (log_of u (drop (length past) (trace_in (ordered L) turns)))

-- at a moment of the run, under a pin that lasts from then on, the slot was reached and the search
-- for k came to it. Its node at that moment is its node at the end: birth and key are the same, and
-- it is a leaf at both or at neither (O'Hearn and others)
pub record WasReachedSince (c : Configuration) (turns : List (ℕ × Event)) (u k x : ℕ) : Type 0 where
  pub before : List (ℕ × Event)
  pub since : List (ℕ × Event)
  pub is_run : turns ≡ before ++ since
  pub pinned : HasPin (after_in c before) u
  pub stands : PinStands u (trace_in (after_in c before) since)
  pub reached : Reached (after_in c before).state.memory x
  pub lies : InInterval (after_in c before).state.memory k x
  pub same_birth : (node (after_in c before).state.memory x).birth
      ≡ (node (after_in c turns).state.memory x).birth
  pub same_key : (node (after_in c before).state.memory x).key
      ≡ (node (after_in c turns).state.memory x).key
  pub same_kind : is_leaf (node (after_in c before).state.memory x)
      ≡ is_leaf (node (after_in c turns).state.memory x)

-- at such a moment after the first turns of the run
abbrev pub WasReachedLater : Layout → List (ℕ × Event) → List (ℕ × Event) → ℕ → ℕ → ℕ → Type 0
WasReachedLater L past turns u k x =
    (was : WasReachedSince (ordered L) turns u k x) × (length past < length was.before)

-- in the shape of Natarajan and Mittal, each slot to which a walk for k came in a worker's log
-- after its pin was reached after the pin, with k in its interval. The key may be any below the key
-- of slot 2: each walk begins at the left edge of slot 2, and the searches for all other keys turn
-- right at slot 1 or 2
abbrev pub AnyWalkWasReached : Layout → List (ℕ × Event) → Type 0
AnyWalkWasReached L turns = L.radix ≡ false → (u k slot parent : ℕ) (side : Side) → k < infinity_1
    → WalkComes k (log_under_pin L turns u) slot parent side
    → WasReachedSince (ordered L) turns u k slot

-- in the shape of Natarajan and Mittal, if an internal node to which a walk for k came is reached
-- now, k is in its interval now
abbrev pub AnyWalkStaysInOrder : Layout → List (ℕ × Event) → Type 0
AnyWalkStaysInOrder L turns = L.radix ≡ false → (u k slot parent : ℕ) (side : Side) → k < infinity_1
    → WalkComes k (log_under_pin L turns u) slot parent side
    → Reached (after_in (ordered L) turns).state.memory slot
    → is_leaf (node (after_in (ordered L) turns).state.memory slot) ≡ false
    → InInterval (after_in (ordered L) turns).state.memory k slot

-- the key that a walk read at a slot is that slot's key now, for a walk for any key
abbrev pub AnyWalkReadsKeys : Layout → List (ℕ × Event) → Type 0
AnyWalkReadsKeys L turns = (u k slot parent : ℕ) (side : Side) (v : ℕ)
    → WalkReads k (log_under_pin L turns u) slot parent side v
    → key (after_in (ordered L) turns).state.memory slot ≡ v
