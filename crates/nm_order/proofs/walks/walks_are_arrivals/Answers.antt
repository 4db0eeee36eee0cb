use Rattle.nm_order.proofs.WalkLaws.{each_coming, each_reading, each_end}
use Rattle.nm_order.proofs.walks.walks_are_arrivals.Goals as goal

pub returns-clause-comes : goal.returns-clause-comes
returns-clause-comes c = each_coming

pub returns-clause-reads : goal.returns-clause-reads
returns-clause-reads c = each_reading

pub returns-clause-ends : goal.returns-clause-ends
returns-clause-ends c = each_end
