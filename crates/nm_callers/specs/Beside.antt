-- The progress of others during a call that does not succeed.
use Rattle.std.specs.Prelude.{◌≡◌, ℕ, ◌+◌, ◌*◌, ◌≤◌, List, ◌++◌}
use Rattle.nm_model.specs.declared.event.Op.TheVariants.{Has}
use Rattle.nm_model.specs.declared.trace.Turn.{Turn}
use Rattle.nm_progress.specs.Moves.{number_of, moves_of_others}
use Rattle.nm_progress.specs.Paid.{links_in, flags_in}
use Rattle.nm_steps.specs.Steps.{PassView}
use Rattle.nm_set.specs.Managed.{MetInterference}

-- others made progress: between what p had seen and what q has seen, these add up to at least
-- `times`: the advances of the epoch by others, the links that were won, three times the flags that
-- were won, and two for each worker (lock freedom: Herlihy and Shavit, section 3.7)
pub record GotOn (p q : PassView) (times : ℕ) : Type 0 where
  pub turns : List Turn
  pub is : q.view.past ≡ p.view.past ++ turns
  pub got_on : times ≤ number_of (moves_of_others p.view.number) turns
      + (links_in turns + 3 * flags_in turns + 2 * p.view.layout.workers)

-- others advanced the epoch, or linked or cut off nodes, at least half as often as the call had
-- tries
abbrev pub MetInterferenceByHalf : PassView → PassView → ℕ → Type 0
MetInterferenceByHalf p q tries =
    (times : ℕ) × (tries ≤ 2 * times + 1) × MetInterference Has p q times
