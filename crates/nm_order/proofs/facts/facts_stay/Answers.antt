use Rattle.nm_order.proofs.FactStays.{facts_stay as each_fact_stays}
use Rattle.nm_order.proofs.facts.facts_stay.Goals as goal

pub returns : goal.returns
returns c = each_fact_stays
