use Rattle.nm_progress.proofs.CountedTries.{tries_are_paid as part, tries_are_paid_ever as ever}
use Rattle.nm_progress.proofs.tries.tries_are_paid.Goals as goal

pub returns-clause-part : goal.returns-clause-part
returns-clause-part c = part

pub returns-clause-ever : goal.returns-clause-ever
returns-clause-ever c = ever
