use Rattle.nm_order.proofs.TotalsOfLogs.{totals_are_in_the_logs}
use Rattle.nm_order.proofs.TotalsOfRuns.{each_total_agrees, each_total_is_the_set}
use Rattle.nm_order.proofs.history.totals_agree.Goals as goal

pub returns-clause-stand : goal.returns-clause-stand
returns-clause-stand c = each_total_agrees

pub returns-clause-set : goal.returns-clause-set
returns-clause-set c = each_total_is_the_set

pub returns-clause-logs : goal.returns-clause-logs
returns-clause-logs c = totals_are_in_the_logs
