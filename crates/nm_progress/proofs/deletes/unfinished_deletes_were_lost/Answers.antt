use Rattle.nm_progress.proofs.InterferedCalls.{unfinished_deletes_were_lost as flagged, unfinished_finishes_were_lost as finish}
use Rattle.nm_progress.proofs.deletes.unfinished_deletes_were_lost.Goals as goal

pub returns-clause-flagged : goal.returns-clause-flagged
returns-clause-flagged c = flagged

pub returns-clause-finish : goal.returns-clause-finish
returns-clause-finish c = finish
