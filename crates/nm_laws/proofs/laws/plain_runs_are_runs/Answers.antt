use Rattle.nm_laws.proofs.Configurations.{plain_runs}
use Rattle.nm_laws.proofs.laws.plain_runs_are_runs.Goals as goal

pub returns : goal.returns
returns c = plain_runs
