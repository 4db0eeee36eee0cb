use Rattle.nm_laws.proofs.Cuts.{swaps_cut_just, swaps_name_births}
use Rattle.nm_laws.proofs.laws.swaps_cut_their_leaves.Goals as goal

pub returns-clause-exactly : goal.returns-clause-exactly
returns-clause-exactly c = swaps_cut_just

pub returns-clause-births : goal.returns-clause-births
returns-clause-births c = swaps_name_births
