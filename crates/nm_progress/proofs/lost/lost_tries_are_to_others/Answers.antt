use Rattle.nm_progress.proofs.LostTries.{lost_tries_are_to_others as every_run}
use Rattle.nm_progress.proofs.lost.lost_tries_are_to_others.Goals as goal

pub returns : goal.returns
returns c = every_run
