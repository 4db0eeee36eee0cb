use Rattle.nm_laws.proofs.LogsOfRuns.{searches_tell}
use Rattle.nm_laws.proofs.WalksOfLogs.{arrivals_are_walks as each_arrival}
use Rattle.nm_laws.proofs.laws.arrivals_are_walks.Goals as goal

pub returns-clause-told : goal.returns-clause-told
returns-clause-told c = searches_tell

pub returns-clause-walks : goal.returns-clause-walks
returns-clause-walks c = each_arrival
