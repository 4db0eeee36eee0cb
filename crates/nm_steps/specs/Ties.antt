-- The logs of a seat are parts of one run.
use Rattle.std.specs.Prelude.{◌≡◌, ◌≤◌, ◌+◌, ◌⊎◌, ℕ, false, [], length}
use Rattle.atomic_table.specs.Table.{Me, Step}
use Rattle.nm_edge.specs.Layouts.{IsLayout}
use Rattle.nm_steps.specs.declared.view.View.{View}
use Rattle.nm_steps.specs.Rules.{stands, once_below, Extends, ExtendsStores, StoredBefore}
use Rattle.nm_steps.specs.Steps.{IsOfRun, HasSeen}
use Rattle.nm_steps.specs.Values.{HasSeenStores}

-- the seat is not spent, its own log is its worker's part of some run, the worker has not resigned,
-- and each number is there at most once and below the number of workers
pub record StandsInRun (v : View) : Type 0 where
  pub alive : v.resigned ≡ false
  pub fits : IsLayout v.layout
  pub run : IsOfRun v.layout v.number v.log
  pub once : (w : ℕ) → stands w v ≤ once_below w v.layout.workers

-- a view that has seen more extends what it had seen, and what it had heard of, before: of turns and
-- of stores
pub record HasSeenBoth (before after : View) : Type 0 where
  pub is : after
      ≡ record before { past = after.past; heard = []; stores = after.stores; heard_stores = [] }
  pub past : Extends after.past before.past
  pub heard : Extends after.past before.heard
  pub stores : ExtendsStores after.stores before.stores
  pub heard_stores : ExtendsStores after.stores before.heard_stores

-- a read that changes no word, by which the seat has seen the run and the stores so far, and learns
-- that its logs are parts of one run. Its log had no more entries at any store of its worker. The
-- stores are those of the run, if the table has values
abbrev pub TellsItsStanding : Step Unit → Me Unit View → ℕ → Me Unit View → Type 0
TellsItsStanding s me n after = (after.1 ≡ me.1) × HasSeenBoth me.0 after.0 × HasSeen after.0
    × StandsInRun after.0
    × StoredBefore after.0.number (length after.0.log + 1) after.0.stores
    × ((s.slots ≡ 0) ⊎ HasSeenStores after.0)
