use Rattle.nm_order.proofs.LegalAnswers.{each_other_answer}
use Rattle.nm_order.proofs.history.answers_were_legal.Goals as goal

pub returns : goal.returns
returns c = each_other_answer
