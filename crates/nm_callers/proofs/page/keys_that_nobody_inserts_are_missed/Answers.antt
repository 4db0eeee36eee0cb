use Rattle.nm_callers.proofs.TwoAnswers.{never_inserted_then_missed}
use Rattle.nm_callers.proofs.page.keys_that_nobody_inserts_are_missed.Goals as goal

pub returns : goal.returns
returns c = never_inserted_then_missed
