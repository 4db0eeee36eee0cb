use Rattle.nm_laws.proofs.Grace.{grace_holds as every_run}
use Rattle.nm_laws.proofs.laws.grace_holds.Goals as goal

pub returns : goal.returns
returns c = every_run
