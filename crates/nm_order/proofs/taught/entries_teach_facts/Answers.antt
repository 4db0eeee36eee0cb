use Rattle.nm_order.proofs.TaughtFacts.{edges_are_learned, tags_are_learned, tags_freeze, flags_are_learned, births_are_learned, pins_are_learned}
use Rattle.nm_order.proofs.taught.entries_teach_facts.Goals as goal

pub returns-clause-edges : goal.returns-clause-edges
returns-clause-edges c = edges_are_learned

pub returns-clause-tags : goal.returns-clause-tags
returns-clause-tags c = tags_are_learned

pub returns-clause-freeze : goal.returns-clause-freeze
returns-clause-freeze c = tags_freeze

pub returns-clause-flags : goal.returns-clause-flags
returns-clause-flags c = flags_are_learned

pub returns-clause-births : goal.returns-clause-births
returns-clause-births c = births_are_learned

pub returns-clause-pins : goal.returns-clause-pins
returns-clause-pins c = pins_are_learned
