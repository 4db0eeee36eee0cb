-- What other workers did during a delete that returned `Busy`, or that is not finished.
use Rattle.std.specs.Prelude.{ℕ, ◌-◌, ◌≤◌, Err}
use Rattle.nm_edge.specs.declared.node.NodeId.{NodeId}
use Rattle.nm_steps.specs.Steps.{PassView, IsSamePass, HasSeenAllOf, HasSeen}
use Rattle.nm_walks.specs.Bounds.{chain_bound}
use Rattle.nm_calls.specs.declared.fault.CallFault.TheVariants as fault
use Rattle.nm_calls.specs.Deletes.{DeleteDid, IsRemoving, LosesAfterFlag, LosesEachTry}
use Rattle.nm_progress.specs.Lost.{Interference, WasChanged, ChangeWasBusy}

-- each delete that is busy, by its contract, was lost for such a reason
abbrev pub BusyDeletesWereLost : Type 0
BusyDeletesWereLost = (k tries : ℕ) (p q : PassView) → HasSeen p.view → HasSeen q.view
    → 5 ≤ p.view.layout.nodes → p.view.layout.workers ≤ chain_bound → IsSamePass p q → HasSeenAllOf q p
    → DeleteDid p.view.layout tries k p.view.log q.view.log (Err fault.Busy)
    → ChangeWasBusy p q tries

-- a delete that has flagged its leaf n and lost all tries after that: its worker was interfered
-- with at least as many times as it had tries, less the one that won the flag
abbrev pub UnfinishedDeletesWereLost : Type 0
UnfinishedDeletesWereLost = (k tries : ℕ) (n : NodeId) (p q : PassView) → HasSeen p.view
    → HasSeen q.view → 5 ≤ p.view.layout.nodes → p.view.layout.workers ≤ chain_bound
    → IsSamePass p q → HasSeenAllOf q p
    → IsRemoving q k n → LosesAfterFlag p.view.layout tries k p.view.log q.view.log n
    → Interference p q (tries - 1)

-- a call that goes on with such a delete and loses each try: other workers changed edges at least as
-- many times as it had tries
abbrev pub UnfinishedFinishesWereLost : Type 0
UnfinishedFinishesWereLost = (k tries : ℕ) (n : NodeId) (p q : PassView) → HasSeen p.view
    → HasSeen q.view → 5 ≤ p.view.layout.nodes → p.view.layout.workers ≤ chain_bound
    → IsSamePass p q → HasSeenAllOf q p
    → IsRemoving q k n → LosesEachTry p.view.layout k n tries p.view.log q.view.log
    → WasChanged p q tries
