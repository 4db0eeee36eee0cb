-- The effect of a read of the epoch.
use Rattle.std.specs.Prelude.{◌≡◌, ◌≤◌, ℕ, Some}
use Rattle.nm_model.specs.Step.{last_number}
use Rattle.nm_steps.specs.Rules.{knowledge}
use Rattle.nm_steps.specs.Steps.{PassView, Continues}
use Rattle.nm_epoch.specs.Collecting.{ledgers_seen}
use Rattle.nm_epoch.specs.Resting.{KeepsHands, Settles, epochs}
use Rattle.nm_epoch.specs.Scans.{IsSightOf}

-- one sight found this epoch; if a cut waited for its label, this is the label
pub record Reads (epoch : ℕ) (p q : PassView) : Type 0 where
  pub on : Continues p q
  pub step : IsSightOf epoch p.view.log q.view.log
  pub seen : (epochs q).seen ≡ Some epoch
  pub small : epoch ≤ last_number
  pub ledgers : (knowledge q.view).ledgers ≡ ledgers_seen epoch (knowledge p.view)
  pub settles : Settles p q
  pub hands : KeepsHands p q
