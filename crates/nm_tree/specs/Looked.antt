-- What a call whose pin is for no operation leaves of its worker, by its answer.
use Rattle.std.specs.Prelude.{ℕ, List, Result, Ok, Err}
use Rattle.nm_model.specs.Walks.{Entry}
use Rattle.nm_calls.specs.PlainWalks.{LooksUnderPin, PlainMissed}
use Rattle.nm_calls.specs.declared.fault.CallFault.{CallFault}
use Rattle.nm_calls.specs.declared.fault.CallFault.TheVariants as fault
use Rattle.nm_tree.specs.Answers.{IsPendingStill, IsFree}
use Rattle.nm_tree.specs.Workers.{WorkerView}

-- what such a call leaves of its worker and its log, by its answer, with at most `most` looks;
-- `GivesUp` is how its walks end without an answer (Natarajan and Mittal, section 3.2)
abbrev pub HasSeenMore : {X : Type 0} → (List Entry → List Entry → Type 0) → ℕ → ℕ → WorkerView → WorkerView
    → Result X CallFault → Type 0
HasSeenMore GivesUp tries most w z (Ok _) =
    IsFree w z × LooksUnderPin tries most w.pass.view.log z.pass.view.log
HasSeenMore GivesUp tries most w z (Err fault.Busy) =
    IsFree w z × PlainMissed GivesUp tries w.pass.view.log z.pass.view.log
HasSeenMore GivesUp tries most w z (Err fault.Pending) = IsPendingStill w z
HasSeenMore GivesUp tries most w z (Err _) = ⊥
