-- Why a call failed, by the turns that interfered with it: changes by others, and its own splices.
use Rattle.std.specs.Prelude.{◌≡◌, ◌⊎◌, ℕ, ◌+◌, ◌*◌, ◌≤◌, List, ◌++◌}
use Rattle.nm_model.specs.declared.trace.Turn.{Turn}
use Rattle.nm_steps.specs.Steps.{PassView}
use Rattle.nm_progress.specs.Moves.{number_of}
use Rattle.nm_progress.specs.Paid.{links_in, flags_in}
use Rattle.nm_progress.specs.Tries.{changes_of_others, interferes, own_flags}
use Rattle.nm_progress.specs.Pins.{WasMovedPast}

-- between what p had seen and what q has seen, the worker was interfered with at least this many
-- times: another worker changed an edge, or it cut off nodes itself. This number is at most twice the
-- changes of edges by other workers, and the flags that it won, and the workers (`by_others`). It is
-- also at most the won links, three times the won flags, and twice the workers (`paid`; lock freedom:
-- Herlihy and Shavit, chapter 3)
pub record Interference (p q : PassView) (times : ℕ) : Type 0 where
  pub turns : List Turn
  pub is : q.view.past ≡ p.view.past ++ turns
  pub interfered : times ≤ number_of (interferes p.view.number) turns
  pub by_others : times ≤ 2 * number_of (changes_of_others p.view.number) turns
      + own_flags p.view.number turns + p.view.layout.workers
  pub paid : times ≤ links_in turns + 3 * flags_in turns + 2 * p.view.layout.workers

-- between what p had seen and what q has seen, other workers changed edges at least this many times.
-- This number has the same bound (`paid`)
pub record WasChanged (p q : PassView) (times : ℕ) : Type 0 where
  pub turns : List Turn
  pub is : q.view.past ≡ p.view.past ++ turns
  pub changed : times ≤ number_of (changes_of_others p.view.number) turns
  pub paid : times ≤ links_in turns + 3 * flags_in turns + 2 * p.view.layout.workers

-- why an insert or a delete was busy: its number of tries was 0; or others advanced the epoch at
-- least as many times; or its worker was interfered with at least as many times
abbrev pub ChangeWasBusy : PassView → PassView → ℕ → Type 0
ChangeWasBusy p q tries = (tries ≡ 0) ⊎ WasMovedPast p q tries ⊎ Interference p q tries
