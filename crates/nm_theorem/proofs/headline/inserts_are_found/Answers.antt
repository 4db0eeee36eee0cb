use Rattle.nm_theorem.proofs.TwoAnswers.{insert_then_found}
use Rattle.nm_theorem.proofs.headline.inserts_are_found.Goals as goal

pub returns : goal.returns
returns c = insert_then_found
