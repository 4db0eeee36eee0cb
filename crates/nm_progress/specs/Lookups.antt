-- What other workers did during a look-up that returned `Busy`.
use Rattle.std.specs.Prelude.{◌≡◌, ◌⊎◌, ℕ, ◌≤◌, List, ◌++◌}
use Rattle.nm_model.specs.declared.trace.Turn.{Turn}
use Rattle.nm_steps.specs.Steps.{PassView, IsSamePass, HasSeenAllOf, HasSeen}
use Rattle.nm_calls.specs.Calls.{HasMissed}
use Rattle.nm_progress.specs.Moves.{number_of}
use Rattle.nm_progress.specs.Tries.{reshapes_of_others}
use Rattle.nm_progress.specs.Pins.{WasMovedPast}

-- between what p had seen and what q has seen, others have linked or cut off nodes at least this
-- many times
pub record WasReshaped (p q : PassView) (times : ℕ) : Type 0 where
  pub turns : List Turn
  pub is : q.view.past ≡ p.view.past ++ turns
  pub reshaped : times ≤ number_of (reshapes_of_others p.view.number) turns

-- why a look-up was busy: its number of tries was 0; or others advanced the epoch at least as many
-- times; or they linked or cut off nodes at least as many times
abbrev pub WasBusy : PassView → PassView → ℕ → Type 0
WasBusy p q tries = (tries ≡ 0) ⊎ WasMovedPast p q tries ⊎ WasReshaped p q tries

-- each look-up that is busy, by its contract, was busy for such a reason
abbrev pub BusyLookupsMetInterference : Type 0
BusyLookupsMetInterference = (k tries : ℕ) (p q : PassView) → HasSeen p.view → HasSeen q.view
    → 5 ≤ p.view.layout.nodes → IsSamePass p q → HasSeenAllOf q p
    → HasMissed p.view.layout tries k p.view.log q.view.log
    → WasBusy p q tries
