use Rattle.nm_laws.proofs.Once.{no_node_is_cut_twice as every_run}
use Rattle.nm_laws.proofs.laws.no_node_is_cut_twice.Goals as goal

pub returns : goal.returns
returns c = every_run
