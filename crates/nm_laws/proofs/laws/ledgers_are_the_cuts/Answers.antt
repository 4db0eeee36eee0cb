use Rattle.nm_laws.proofs.Retired.{freed_then_queue, is_the_cuts}
use Rattle.nm_laws.proofs.Reachable.{retired_grows}
use Rattle.nm_laws.proofs.laws.ledgers_are_the_cuts.Goals as goal

pub returns-clause-split : goal.returns-clause-split
returns-clause-split c = freed_then_queue

pub returns-clause-replies : goal.returns-clause-replies
returns-clause-replies c = is_the_cuts

pub returns-clause-growing : goal.returns-clause-growing
returns-clause-growing c = retired_grows
