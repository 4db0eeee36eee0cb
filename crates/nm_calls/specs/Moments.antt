-- The moment (linearization point) of an answer, in what its pass has seen: it is in the call that
-- returns the answer, and in no earlier one.
use Rattle.std.specs.Prelude.{◌≡◌, ℕ, Bool, None}
use Rattle.nm_model.specs.declared.event.Op.{Op}
use Rattle.nm_steps.specs.Steps.{PassView, IsSamePass, HasSeenAllOf}
use Rattle.nm_model.specs.Histories.{AnswerStands, call_begun}

-- what q has seen ends with this answer, and the answer is that of a call whose pin was confirmed
-- after all that p had seen (Herlihy and Wing)
abbrev pub AnswerHasMoment : PassView → PassView → Op → ℕ → Bool → Type 0
AnswerHasMoment p q op k answer =
    AnswerStands q.view.layout p.view.past q.view.past q.view.number op k answer

-- the pass had no call when it was o, by the turns that it had seen, and has gone on from there
-- (Herlihy and Wing)
pub record HadNoCall (o p : PassView) : Type 0 where
  pub same : IsSamePass o p
  pub past : HasSeenAllOf p o
  pub call : call_begun o.view.number o.view.past ≡ None
