use Rattle.nm_order.proofs.AnswersSince as since
use Rattle.nm_order.proofs.history.answers_are_of_their_calls.Goals as goal

pub returns : goal.returns
returns c = since.answers_are_of_their_calls
