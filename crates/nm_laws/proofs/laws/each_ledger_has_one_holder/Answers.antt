use Rattle.nm_laws.proofs.Retired.{each_ledger_has_one_holder as every_run}
use Rattle.nm_laws.proofs.laws.each_ledger_has_one_holder.Goals as goal

pub returns : goal.returns
returns c = every_run
