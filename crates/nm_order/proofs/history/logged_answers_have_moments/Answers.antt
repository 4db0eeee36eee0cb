use Rattle.nm_order.proofs.LoggedAnswers.{answers_have_moments, pending_deletes_have_flagged}
use Rattle.nm_order.proofs.history.logged_answers_have_moments.Goals as goal

pub returns-clause-answers : goal.returns-clause-answers
returns-clause-answers c = answers_have_moments

pub returns-clause-pending : goal.returns-clause-pending
returns-clause-pending c = pending_deletes_have_flagged
