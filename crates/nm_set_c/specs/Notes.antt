-- Stamps that workers publish and observe: m is the worker before the call, n the worker after it,
-- and o the outcome.
use Rattle.std.specs.Prelude.{◌≡◌, ℕ, Option, Some, None, Result, Ok, Err}
use Rattle.nm_set.specs.Posts.{IsTallyOf, ReadsNote}
use Rattle.nm_set.specs.Seats.{MemberView}
use Rattle.nm_set.specs.declared.fault.ObserveFault.{ObserveFault}
use Rattle.nm_set.specs.declared.fault.ObserveFault.TheVariants as posting
use Rattle.nm_set.specs.declared.posting.Stamp.{Stamp}
use Rattle.nm_set_c.specs.declared.outcome.Outcome.{Outcome}
use Rattle.nm_set_c.specs.declared.outcome.Outcome.TheVariants as outcome

-- two numbers are written, or are unchanged
abbrev pub AreWritten : Option Stamp → ℕ → ℕ → ℕ → ℕ → Type 0
AreWritten (Some p) old_inserted inserted old_removed removed =
    (inserted ≡ p.inserted) × (removed ≡ p.removed)
AreWritten None old_inserted inserted old_removed removed =
    (inserted ≡ old_inserted) × (removed ≡ old_removed)

-- ---- a stamp that is published

-- `of_publish`, `of_observe`: the outcome of such a call, by its answer
abbrev pub of_publish : Option Stamp → Outcome
of_publish (Some p) = outcome.Done
of_publish None = outcome.Busy

-- the stamp has what the worker has done so far, if it was published
abbrev pub IsTally : Option Stamp → MemberView → Type 0
IsTally (Some p) m = IsTallyOf m.worker p
IsTally None m = Unit {0}

-- `TellsPublish`, `TellsObserve`: a stamp is published, or observed, and its numbers are written
pub record TellsPublish (old_inserted inserted old_removed removed : ℕ) (m n : MemberView)
    (o : Outcome) : Type 0 where
  pub left : Option Stamp
  pub told : o ≡ of_publish left
  pub written : AreWritten left old_inserted inserted old_removed removed
  pub tally : IsTally left m
  pub same : n ≡ m

-- ---- a stamp that is observed

abbrev pub of_observe : Result (Option Stamp) ObserveFault → Outcome
of_observe (Ok (Some p)) = outcome.Yes
of_observe (Ok None) = outcome.No
of_observe (Err posting.Number) = outcome.Number
of_observe (Err posting.Busy) = outcome.Busy

-- the stamp that was observed, if there was one
abbrev pub observed_by : Result (Option Stamp) ObserveFault → Option Stamp
observed_by (Ok heard) = heard
observed_by (Err why) = None

pub record TellsObserve (number old_inserted inserted old_removed removed : ℕ) (m n : MemberView)
    (o : Outcome) : Type 0 where
  pub answer : Result (Option Stamp) ObserveFault
  pub told : o ≡ of_observe answer
  pub written : AreWritten (observed_by answer) old_inserted inserted old_removed removed
  pub tree : n.tree ≡ m.tree
  pub heard : ReadsNote m.tree number m.worker n.worker answer
