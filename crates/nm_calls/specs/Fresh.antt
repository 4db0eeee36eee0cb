-- A worker that has done nothing yet.
use Rattle.std.specs.Prelude.{◌≡◌, ◌≢◌, ℕ, [], Some, None}
use Rattle.nm_model.specs.Ledgers.{held, fresh_ledger}
use Rattle.nm_model.specs.Maps.{get}
use Rattle.nm_steps.specs.Rules.{knowledge}
use Rattle.nm_steps.specs.Steps.{PassView}
use Rattle.nm_epoch.specs.Collecting.{IsQueueOf}
use Rattle.nm_epoch.specs.Resting.{IsResting}

-- its log is empty, so it rests; it holds only its own ledger, from which nothing was cut off, and
-- no private slot
pub record HasDoneNothing (p : PassView) : Type 0 where
  pub rests : IsResting p
  pub log : p.view.log ≡ []
  pub ledger : held (knowledge p.view).ledgers p.view.number ≡ Some fresh_ledger
  pub others : (o : ℕ) → o ≢ p.view.number → held (knowledge p.view).ledgers o ≡ None
  pub queue : IsQueueOf (knowledge p.view) p.view.number []
  pub private : (s : ℕ) → get (knowledge p.view).drafts s ≡ None
