use Rattle.nm_progress.proofs.WorkedTries.{is_worked as proof_0}
use Rattle.nm_progress.proofs.worked.worked_tries.Goals as goal

pub returns : goal.returns
returns c = proof_0
