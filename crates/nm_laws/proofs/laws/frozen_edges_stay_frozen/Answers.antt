use Rattle.nm_laws.proofs.EachState.{each_queue_frozen, each_tag_twinned, each_flag_on_leaf}
use Rattle.nm_laws.proofs.laws.frozen_edges_stay_frozen.Goals as goal

pub returns-clause-queued : goal.returns-clause-queued
returns-clause-queued c = each_queue_frozen

pub returns-clause-twins : goal.returns-clause-twins
returns-clause-twins c = each_tag_twinned

pub returns-clause-leaves : goal.returns-clause-leaves
returns-clause-leaves c = each_flag_on_leaf
