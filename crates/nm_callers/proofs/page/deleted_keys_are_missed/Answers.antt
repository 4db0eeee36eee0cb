use Rattle.nm_callers.proofs.TwoAnswers.{deleted_then_missed}
use Rattle.nm_callers.proofs.page.deleted_keys_are_missed.Goals as goal

pub returns : goal.returns
returns c = deleted_then_missed
