use Rattle.nm_progress.proofs.AloneCalls.{inserts_alone_are_answered as proof}
use Rattle.nm_progress.proofs.alone.inserts_alone_are_answered.Goals as goal

pub returns : goal.returns
returns c = proof
