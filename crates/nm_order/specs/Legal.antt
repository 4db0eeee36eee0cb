-- An answer that changes nothing was right at a moment of its call.
use Rattle.std.specs.Prelude.{◌≡◌, ℕ, Bool, false, List, ◌++◌}
use Rattle.nm_edge.specs.Layouts.{Layout}
use Rattle.nm_model.specs.declared.event.Op.{Op}
use Rattle.nm_model.specs.declared.event.Op.TheVariants.{Has, Insert, Delete}
use Rattle.nm_model.specs.declared.event.Event.{Event}
use Rattle.nm_model.specs.Ordered.{ordered, after_in, trace_in}
use Rattle.nm_model.specs.Acts.{InSet, Gives}
use Rattle.nm_order.specs.Intervals.{IsCalled}
use Rattle.nm_order.specs.Moments.{PinStands}
use Rattle.nm_order.specs.Exchanges.{MayAnswer}

-- a true insert and a true delete change the set, and no other answer does (Herlihy and Wing,
-- section 2, sequential specification)
abbrev pub changes : Op → Bool → Bool
changes Has answer = false
changes Insert answer = answer
changes Delete answer = answer

-- at a moment under the pin that lasts from then on, a plain set of the keys of the reached leaves
-- gives the answer to the call (Herlihy and Wing)
pub record WasLegal (L : Layout) (turns : List (ℕ × Event)) (w : ℕ) (op : Op) (k : ℕ)
    (answer : Bool) : Type 0 where
  pub before : List (ℕ × Event)
  pub since : List (ℕ × Event)
  pub is_run : turns ≡ before ++ since
  pub called : IsCalled (after_in (ordered L) before) w op k
  pub stands : PinStands w (trace_in (after_in (ordered L) before) since)
  pub gives : Gives (InSet (after_in (ordered L) before).state.memory) op k answer

-- an answer that changes nothing was right at a moment under the pin
abbrev pub OtherAnswersWereLegal : Layout → List (ℕ × Event) → Type 0
OtherAnswersWereLegal L turns =
    (w : ℕ) (op : Op) (k : ℕ) (answer : Bool) → MayAnswer (after_in (ordered L) turns) w op k answer
    → changes op answer ≡ false → WasLegal L turns w op k answer
