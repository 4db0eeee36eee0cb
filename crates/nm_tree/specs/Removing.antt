-- A delete that expects a value.
use Rattle.std.specs.Prelude.{◌≡◌, ◌≢◌, ℕ, Bool, true, false, Some, None, Result, Ok, Err}
use Rattle.nm_edge.specs.Layouts.{Layout}
use Rattle.nm_steps.specs.Steps.{IsSamePass, HasSeenAllOf}
use Rattle.nm_calls.specs.declared.fault.CallFault.{CallFault}
use Rattle.nm_calls.specs.Bounds.{IsWithinBound}
use Rattle.nm_calls.specs.Maps.{MapGave}
use Rattle.nm_calls.specs.Won.{HasWon}
use Rattle.nm_tree.specs.declared.removing.RemoveOutcome.{RemoveOutcome}
use Rattle.nm_tree.specs.declared.removing.RemoveOutcome.TheVariants as outcome
use Rattle.nm_tree.specs.Answers.{FreesNone, IsFree}
use Rattle.nm_tree.specs.Workers.{WorkerView, KeepsOtherQueues, TakeRoom}

-- the answer of a delete, as the result of one that expects a value
abbrev pub outcome_of : Bool → RemoveOutcome
outcome_of true = outcome.Removed
outcome_of false = outcome.Absent

-- if the key had no other value, this holds of the result as that of a delete
abbrev pub AsDelete : Result RemoveOutcome CallFault → (Result Bool CallFault → Type 0) → Type 0
AsDelete (Ok outcome.Removed) P = P (Ok true)
AsDelete (Ok outcome.Absent) P = P (Ok false)
AsDelete (Ok (outcome.Other found)) P = Unit {0}
AsDelete (Err e) P = P (Err e)

-- if the key had another value, this holds of it
abbrev pub IfOther : Result RemoveOutcome CallFault → (ℕ → Type 0) → Type 0
IfOther (Ok (outcome.Other found)) P = P found
IfOther _ P = Unit {0}

-- `SaysOther`: what a caller learns if the key had another value than the expected one. The map gave this
-- value at a moment (linearization point) of the call (`map`). Nothing was won, no node was freed, and no
-- key was pending before or after (`free`)
pub record SaysOther (L : Layout) (tries k expected : ℕ) (w z : WorkerView) (found : ℕ) : Type 0 where
  pub same : IsSamePass w.pass z.pass
  pub past : HasSeenAllOf z.pass w.pass
  pub free : IsFree w z
  pub other : found ≢ expected
  pub map : MapGave w.pass z.pass k (Some found)
  pub won : HasWon w.pass.view.log z.pass.view.log 0 0
  pub steps : IsWithinBound L tries w.pass.view.log z.pass.view.log
  pub frees : FreesNone w z
  pub queues : KeepsOtherQueues w.pass.view.number w.queues z.queues
  pub blocks : TakeRoom w.queues z.queues
  pub held : z.held ≡ None
  pub fit : z.fit ≡ w.fit
