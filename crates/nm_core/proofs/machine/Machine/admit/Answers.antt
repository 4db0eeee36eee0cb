use Rattle.std.proofs.Common.{inl, inr}
use Rattle.nm_model.specs.Runs.{refused}
use Rattle.nm_model.specs.Step.{refusal}
use Rattle.nm_core.proofs.machine.Machine.admit.Goals as goal

pub returns-in-Sight-clause-admits : goal.returns-in-Sight-clause-admits
unfolding refused refusal
returns-in-Sight-clause-admits c = rw (c.in-Sight.is, ← c.is_no_worker.ensures, c.if-is_no_worker.false)

-- a leave with an answer is refused as one without
pub returns-in-Leave-clause-admits : goal.returns-in-Leave-clause-admits
unfolding refused refusal
returns-in-Leave-clause-admits c = elim c.in-Leave.is [
  | inl is ↦ rw (is, ← c.is_no_worker.ensures, c.if-is_no_worker.false) c.may_leave.ensures
  | inr is ↦ rw (is.1, ← c.is_no_worker.ensures, c.if-is_no_worker.false) c.may_leave.ensures
]
