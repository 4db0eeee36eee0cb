use Rattle.nm_laws.proofs.FreedNodes.{each_freed_is_the_frees, each_queue_is_the_rest, each_free_takes_a_front}
use Rattle.nm_laws.proofs.laws.what_was_freed_is_what_gives_freed.Goals as goal

pub returns-clause-freed : goal.returns-clause-freed
returns-clause-freed c = each_freed_is_the_frees

pub returns-clause-rest : goal.returns-clause-rest
returns-clause-rest c = each_queue_is_the_rest

pub returns-clause-fronts : goal.returns-clause-fronts
returns-clause-fronts c = each_free_takes_a_front
