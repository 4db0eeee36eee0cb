use Rattle.nm_order.proofs.FlagsOfRuns.{each_flag_is_told, no_second_flag}
use Rattle.nm_order.proofs.walks.flags_are_told.Goals as goal

pub returns-clause-told : goal.returns-clause-told
returns-clause-told c = each_flag_is_told

pub returns-clause-once : goal.returns-clause-once
returns-clause-once c = no_second_flag
