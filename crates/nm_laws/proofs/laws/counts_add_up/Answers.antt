use Rattle.nm_laws.proofs.Counts.{each_state_adds_up}
use Rattle.nm_laws.proofs.laws.counts_add_up.Goals as goal

pub returns : goal.returns
returns c = each_state_adds_up
