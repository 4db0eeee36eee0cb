use Rattle.nm_callers.proofs.TwoAnswers.{deleted_then_not_again}
use Rattle.nm_callers.proofs.page.deleted_keys_are_deleted_once.Goals as goal

pub returns : goal.returns
returns c = deleted_then_not_again
