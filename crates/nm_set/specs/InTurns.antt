-- What a look-up of several keys leaves of its member's worker and of the queries.
use Rattle.std.specs.Prelude.{◌≡◌, ◌⊎◌, ℕ, List, None, IsSome, Result, Err}
use Rattle.nm_edge.specs.Layouts.{Layout}
use Rattle.nm_calls.specs.declared.many.Query.{Query}
use Rattle.nm_calls.specs.declared.fault.CallFault.{CallFault}
use Rattle.nm_calls.specs.declared.fault.CallFault.TheVariants as fault
use Rattle.nm_tree.specs.Workers.{WorkerView}
use Rattle.nm_tree.specs.Calls.{LeavesHasMany}

-- if the caller has pinned the worker, the tree's call is not made, and nothing has changed;
-- otherwise the call leaves what the tree's look-up of these queries leaves
abbrev pub AskedMany : Layout → ℕ → List Query → List Query → WorkerView → WorkerView
    → Result (Unit {0}) CallFault → Type 0
AskedMany L tries old new w z r =
    (IsSome w.held × (r ≡ Err fault.Pinned) × (z ≡ w) × (new ≡ old))
    ⊎ ((w.held ≡ None) × LeavesHasMany L tries old new w z r)
