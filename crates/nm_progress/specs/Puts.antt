-- What other workers did during a put that returned `Busy`, and puts that run alone.
use Rattle.std.specs.Prelude.{◌≡◌, ◌≤◌, ℕ, Err}
use Rattle.nm_edge.specs.declared.placement.Fit.{Fit}
use Rattle.nm_steps.specs.Steps.{PassView, IsSamePass, HasSeenAllOf, HasSeen}
use Rattle.nm_epoch.specs.Resting.{IsResting}
use Rattle.nm_walks.specs.Bounds.{chain_bound}
use Rattle.nm_calls.specs.declared.fault.CallFault.TheVariants as fault
use Rattle.nm_puts.specs.declared.putting.Condition.{Condition}
use Rattle.nm_puts.specs.Puts.{PutDid}
use Rattle.nm_progress.specs.Alone.{RunsAlone}
use Rattle.nm_progress.specs.Lost.{ChangeWasBusy}

-- each put that is busy, by its contract, was lost for such a reason
abbrev pub BusyPutsWereLost : Type 0
BusyPutsWereLost = (fit : Fit) (when : Condition) (k tries : ℕ) (p q : PassView) → HasSeen p.view → HasSeen q.view
    → 5 ≤ p.view.layout.nodes → p.view.layout.workers ≤ chain_bound → IsSamePass p q → HasSeenAllOf q p
    → PutDid fit p.view.layout tries when k p.view.log q.view.log (Err fault.Busy)
    → ChangeWasBusy p q tries

-- a put that runs alone and may make a try is not busy
abbrev pub PutsAloneAreDone : Type 0
PutsAloneAreDone = (fit : Fit) (when : Condition) (k tries : ℕ) (p q : PassView) → HasSeen p.view
    → HasSeen q.view → 5 ≤ p.view.layout.nodes → IsSamePass p q → HasSeenAllOf q p → RunsAlone p q
    → IsResting p → PutDid fit p.view.layout tries when k p.view.log q.view.log (Err fault.Busy)
    → tries ≡ 0
