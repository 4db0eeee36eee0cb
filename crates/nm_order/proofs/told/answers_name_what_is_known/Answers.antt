use Rattle.nm_order.proofs.ToldNodes.{cuts_are_as_known, flags_are_as_known}
use Rattle.nm_order.proofs.told.answers_name_what_is_known.Goals as goal

pub returns-clause-cuts : goal.returns-clause-cuts
returns-clause-cuts c = cuts_are_as_known

pub returns-clause-flags : goal.returns-clause-flags
returns-clause-flags c = flags_are_as_known
