use Rattle.nm_tree.proofs.OfClosed.{all_were_given, each_slot_ends_once, queues_are_the_rest}
use Rattle.nm_tree.proofs.closing.closed_trees_are_accounted_for.Goals as goal

pub returns : goal.returns
returns c = record { given = all_were_given; accounted = queues_are_the_rest; once = each_slot_ends_once }
