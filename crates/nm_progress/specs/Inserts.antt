-- What other workers did during an insert that returned `Busy`.
use Rattle.std.specs.Prelude.{ℕ, ◌≤◌, Err}
use Rattle.nm_edge.specs.declared.placement.Fit.{Fit}
use Rattle.nm_steps.specs.Steps.{PassView, IsSamePass, HasSeenAllOf, HasSeen}
use Rattle.nm_walks.specs.Bounds.{chain_bound}
use Rattle.nm_calls.specs.declared.fault.CallFault.TheVariants as fault
use Rattle.nm_calls.specs.Inserts.{InsertDid}
use Rattle.nm_progress.specs.Lost.{ChangeWasBusy}

-- each insert that is busy, by its contract, was lost for such a reason
abbrev pub BusyInsertsWereLost : Type 0
BusyInsertsWereLost = (fit : Fit) (k tries : ℕ) (p q : PassView) → HasSeen p.view → HasSeen q.view
    → 5 ≤ p.view.layout.nodes → p.view.layout.workers ≤ chain_bound → IsSamePass p q → HasSeenAllOf q p
    → InsertDid fit p.view.layout tries k p.view.log q.view.log (Err fault.Busy)
    → ChangeWasBusy p q tries
