use Rattle.nm_tree.proofs.EndsOfLeaves.{each_reached_node_ends_once, each_stored_value_ends_once}
use Rattle.nm_tree.proofs.closing.linked_leaves_end_once.Goals as goal

pub returns : goal.returns
returns c = record { nodes = each_reached_node_ends_once; values = each_stored_value_ends_once }
