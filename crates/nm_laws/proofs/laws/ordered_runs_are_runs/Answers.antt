use Rattle.nm_laws.proofs.Configurations.{ordered_runs}
use Rattle.nm_laws.proofs.laws.ordered_runs_are_runs.Goals as goal

pub returns : goal.returns
returns c = ordered_runs
