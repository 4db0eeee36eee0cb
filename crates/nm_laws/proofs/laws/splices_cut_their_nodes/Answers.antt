use Rattle.nm_laws.proofs.Cuts.{cuts_just, cuts_name_births}
use Rattle.nm_laws.proofs.SplicedEdges.{each_splice_keeps_the_edge}
use Rattle.nm_laws.proofs.laws.splices_cut_their_nodes.Goals as goal

pub returns-clause-exactly : goal.returns-clause-exactly
returns-clause-exactly c = cuts_just

pub returns-clause-births : goal.returns-clause-births
returns-clause-births c = cuts_name_births

pub returns-clause-kept : goal.returns-clause-kept
returns-clause-kept c = each_splice_keeps_the_edge
