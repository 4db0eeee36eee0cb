use Rattle.nm_order.proofs.FlagsOfEvents.{flags_stay, later_grows}
use Rattle.nm_order.proofs.walks.flags_stay.Goals as goal

pub returns-clause-flag : goal.returns-clause-flag
returns-clause-flag c = flags_stay

pub returns-clause-later : goal.returns-clause-later
returns-clause-later c = later_grows
