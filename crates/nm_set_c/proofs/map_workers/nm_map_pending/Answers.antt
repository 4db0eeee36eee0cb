use Rattle.std.proofs.Common.{rules}
use Rattle.nm_set_c.proofs.Owners.{told_map_worker}
use Rattle.nm_set_c.proofs.map_workers.nm_map_pending.Goals as goal

pub returns : goal.returns
returns c = search (rules, told_map_worker)
