use Rattle.nm_order.proofs.WalkLaws.{each_later_is_a_walk, each_later_coming, each_later_reading, each_later_end}
use Rattle.nm_order.proofs.walks.walks_after_the_flag.Goals as goal

pub returns-clause-walks : goal.returns-clause-walks
returns-clause-walks c = each_later_is_a_walk

pub returns-clause-comes : goal.returns-clause-comes
returns-clause-comes c = each_later_coming

pub returns-clause-reads : goal.returns-clause-reads
returns-clause-reads c = each_later_reading

pub returns-clause-ends : goal.returns-clause-ends
returns-clause-ends c = each_later_end
