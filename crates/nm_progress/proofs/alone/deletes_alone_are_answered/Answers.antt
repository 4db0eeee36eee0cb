use Rattle.nm_progress.proofs.AloneCalls.{deletes_alone_are_not_busy}
use Rattle.nm_progress.proofs.AloneRemovals.{deletes_alone_are_finished}
use Rattle.nm_progress.proofs.alone.deletes_alone_are_answered.Goals as goal

pub returns-clause-busy : goal.returns-clause-busy
returns-clause-busy c = deletes_alone_are_not_busy

pub returns-clause-finished : goal.returns-clause-finished
returns-clause-finished c = deletes_alone_are_finished
