use Rattle.nm_tree.proofs.WaitingValues.{waiting_leaves_have_their_values, waiting_nodes_were_reached}
use Rattle.nm_tree.proofs.map_closing.waiting_values_are_those_at_the_cut.Goals as goal

pub returns : goal.returns
returns c = record { reached = waiting_nodes_were_reached; values = waiting_leaves_have_their_values }
