use Rattle.nm_callers.proofs.TwoAnswers.{inserted_then_found}
use Rattle.nm_callers.proofs.page.inserted_keys_are_found.Goals as goal

pub returns : goal.returns
returns c = inserted_then_found
