-- Stale paths in a radix tree: the slots to which the walks in a worker's log came after its pin was
-- confirmed, with or without a call.
use Rattle.std.specs.Prelude.{◌≡◌, ℕ, ◌<◌, true, false, List, ◌++◌, Contains}
use Rattle.nm_edge.specs.Layouts.{Layout}
use Rattle.nm_edge.specs.Ranges.{covers}
use Rattle.nm_edge.specs.declared.edge.Side.{Side}
use Rattle.nm_model.specs.declared.event.Event.{Event}
use Rattle.nm_model.specs.declared.event.Event.TheVariants.{Look}
use Rattle.nm_model.specs.declared.event.Field.TheVariants.{Key}
use Rattle.nm_model.specs.declared.reply.Reply.TheVariants.{KeyIs}
use Rattle.nm_model.specs.Acts.{InSet}
use Rattle.nm_model.specs.Memory.{node, is_leaf, infinity_1}
use Rattle.nm_model.specs.Paths.{Reached}
use Rattle.nm_model.specs.Walks.{Entry, WalkComes, WalkEnds}
use Rattle.nm_model.specs.Ordered.{Configuration, ordered, after_in, trace_in}
use Rattle.nm_order.specs.Moments.{PinStands}
use Rattle.nm_order.specs.Ranges.{WalkPasses}
use Rattle.nm_order.specs.StalePaths.{HasPin, log_under_pin, WasReachedSince}

-- at a moment of the run, under a pin that lasts from then on, the slot was reached. Its node at
-- that moment is its node at the end: birth and key are the same, and it is a leaf at both or at
-- neither (O'Hearn and others)
pub record WasInTreeSince (c : Configuration) (turns : List (ℕ × Event)) (u x : ℕ) : Type 0 where
  pub before : List (ℕ × Event)
  pub since : List (ℕ × Event)
  pub is_run : turns ≡ before ++ since
  pub pinned : HasPin (after_in c before) u
  pub stands : PinStands u (trace_in (after_in c before) since)
  pub reached : Reached (after_in c before).state.memory x
  pub same_birth : (node (after_in c before).state.memory x).birth
      ≡ (node (after_in c turns).state.memory x).birth
  pub same_key : (node (after_in c before).state.memory x).key
      ≡ (node (after_in c turns).state.memory x).key
  pub same_kind : is_leaf (node (after_in c before).state.memory x)
      ≡ is_leaf (node (after_in c turns).state.memory x)

-- in either shape, each slot to which a walk came in a worker's log after its pin was reached after
-- the pin
abbrev pub AnyWalkWasInTree : Layout → List (ℕ × Event) → Type 0
AnyWalkWasInTree L turns = (u k slot parent : ℕ) (side : Side)
    → WalkComes k (log_under_pin L turns u) slot parent side
    → WasInTreeSince (ordered L) turns u slot

-- k is in the range of each key that these looks have read: of each node from which the walk went
-- on
abbrev pub InRanges : ℕ → List Entry → Type 0
InRanges k looks = (slot v : ℕ) → Contains looks (Look slot Key, KeyIs v) → covers v k ≡ true

-- in a radix tree, if k is in the range of each node that a walk for k has passed, the slot to which
-- the walk came was reached after the pin, with k in its interval
abbrev pub AnyWalkInRangeWasReached : Layout → List (ℕ × Event) → Type 0
AnyWalkInRangeWasReached L turns = L.radix ≡ true → (u k slot parent : ℕ) (side : Side)
    → k < infinity_1 → (walk : WalkComes k (log_under_pin L turns u) slot parent side)
    → InRanges k walk.looks → WasReachedSince (ordered L) turns u k slot

-- the same of the first node without k in its range from which a walk for k goes on; and at that
-- moment k was not in the set
abbrev pub AnyWalkOutOfRangeWasRight : Layout → List (ℕ × Event) → Type 0
AnyWalkOutOfRangeWasRight L turns = L.radix ≡ true → (u k slot parent : ℕ) (side : Side) (v : ℕ)
    → k < infinity_1 → (walk : WalkPasses k (log_under_pin L turns u) slot parent side v)
    → InRanges k walk.looks → covers v k ≡ false → (was : WasReachedSince (ordered L) turns u k slot)
    × (InSet (after_in (ordered L) was.before).state.memory k → ⊥)

-- in a radix tree, a walk for k that has passed a node without k in its range ends at a leaf with
-- another key
abbrev pub AnyWalkOutOfRangeEndsElsewhere : Layout → List (ℕ × Event) → Type 0
AnyWalkOutOfRangeEndsElsewhere L turns = L.radix ≡ true → (u k slot parent : ℕ) (side : Side)
    (v : ℕ) → k < infinity_1 → (walk : WalkEnds k (log_under_pin L turns u) slot parent side v)
    → (x n : ℕ) → Contains walk.looks (Look x Key, KeyIs n) → covers n k ≡ false → v ≡ k → ⊥
