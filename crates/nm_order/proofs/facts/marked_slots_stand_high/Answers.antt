use Rattle.nm_order.proofs.FactLaws.{flagged_slots_stand_high, tagged_slots_stand_high}
use Rattle.nm_order.proofs.facts.marked_slots_stand_high.Goals as goal

pub returns-clause-flagged : goal.returns-clause-flagged
returns-clause-flagged c = flagged_slots_stand_high

pub returns-clause-tagged : goal.returns-clause-tagged
returns-clause-tagged c = tagged_slots_stand_high
