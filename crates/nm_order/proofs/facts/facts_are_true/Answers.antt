use Rattle.nm_order.proofs.FactLaws.{facts_are_true as each_fact_is_true}
use Rattle.nm_order.proofs.facts.facts_are_true.Goals as goal

pub returns : goal.returns
returns c = each_fact_is_true
