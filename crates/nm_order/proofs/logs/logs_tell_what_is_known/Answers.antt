use Rattle.nm_order.proofs.PartsOfRuns.{logs_tell}
use Rattle.nm_order.proofs.logs.logs_tell_what_is_known.Goals as goal

pub returns : goal.returns
returns c = logs_tell
