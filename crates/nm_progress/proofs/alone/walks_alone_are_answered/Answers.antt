use Rattle.nm_progress.proofs.AloneCalls.{many_alone_are_answered, near_alone_are_answered}
use Rattle.nm_progress.proofs.alone.walks_alone_are_answered.Goals as goal

pub returns-clause-many : goal.returns-clause-many
returns-clause-many c = many_alone_are_answered

pub returns-clause-near : goal.returns-clause-near
returns-clause-near c = near_alone_are_answered
