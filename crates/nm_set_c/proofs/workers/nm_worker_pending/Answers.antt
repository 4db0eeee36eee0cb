use Rattle.std.proofs.Common.{rules}
use Rattle.nm_set_c.proofs.Owners.{told_worker}
use Rattle.nm_set_c.proofs.workers.nm_worker_pending.Goals as goal

pub returns : goal.returns
returns c = search (rules, told_worker)
