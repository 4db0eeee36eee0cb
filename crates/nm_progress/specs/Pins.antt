-- What other workers did during a call that lost each try of its pin.
use Rattle.std.specs.Prelude.{◌≡◌, ℕ, suc, ◌≤◌, true, List, ◌++◌}
use Rattle.nm_model.specs.declared.event.Event.{Event}
use Rattle.nm_model.specs.declared.trace.Turn.{Turn}
use Rattle.nm_steps.specs.Steps.{PassView, IsSamePass, HasSeenAllOf, HasSeen}
use Rattle.nm_epoch.specs.Tries.{IsMoved}
use Rattle.nm_progress.specs.Moves.{number_of, moves_of_others, is_sight}

-- between what p had seen and what q has seen, other workers have advanced the epoch at least this
-- many times
pub record WasMovedPast (p q : PassView) (times : ℕ) : Type 0 where
  pub turns : List Turn
  pub is : q.view.past ≡ p.view.past ++ turns
  pub moved : times ≤ number_of (moves_of_others p.view.number) turns

-- if each of these tries of a pin was lost, others have advanced the epoch at least as many times,
-- between the call's begin and its end
abbrev pub LostPinsWereMovedPast : Type 0
LostPinsWereMovedPast = (p q : PassView) → HasSeen p.view → HasSeen q.view → 5 ≤ p.view.layout.nodes
    → IsSamePass p q → HasSeenAllOf q p → (sight : Event) → is_sight sight ≡ true
    → (tries : ℕ) → IsMoved sight (suc tries) p.view.log q.view.log
    → WasMovedPast p q (suc tries)
