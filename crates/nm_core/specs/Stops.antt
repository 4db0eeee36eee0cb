-- Why a run stops before its end.
use Rattle.std.specs.Prelude.{◌≡◌, ℕ, List, take, slice_get, Some, None, Result, Ok, Err}
use Rattle.nm_model.specs.declared.event.Event.{Event}
use Rattle.nm_model.specs.declared.trace.RunError.{RunError}
use Rattle.nm_model.specs.declared.trace.Turn.{Turn}
use Rattle.nm_model.specs.Ordered.{Configuration, refused_in, after_in}

-- the events of a run that were applied: all, or, if memory ran out, the first `done` ones
abbrev pub played : List (ℕ × Event) → Result (List Turn) RunError → List (ℕ × Event)
played turns (Ok trace) = turns
played turns (Err e) = take e.done turns

-- the event after the first `done` ones is one that the core, in the state after these, does not
-- refuse
pub record WouldBeAllowed (c : Configuration) (turns : List (ℕ × Event)) (done : ℕ) : Type 0 where
  pub turn : ℕ × Event
  pub is_next : slice_get turns done ≡ Some turn
  pub allowed : refused_in (after_in c (take done turns)) turn.0 turn.1 ≡ None
