use Rattle.nm_order.proofs.ToldLaws.{twins_are_told, flags_are_told, flagged_lead_high, flagged_stand_high, edges_stay_inside, root_leads, leaves_lead_nowhere, tags_lead}
use Rattle.nm_order.proofs.told.edges_are_told.Goals as goal

pub returns-clause-twins : goal.returns-clause-twins
returns-clause-twins c = twins_are_told

pub returns-clause-high : goal.returns-clause-high
returns-clause-high c = flagged_lead_high

pub returns-clause-owner : goal.returns-clause-owner
returns-clause-owner c = flagged_stand_high

pub returns-clause-inside : goal.returns-clause-inside
returns-clause-inside c = edges_stay_inside

pub returns-clause-root : goal.returns-clause-root
returns-clause-root c = root_leads

pub returns-clause-tags : goal.returns-clause-tags
returns-clause-tags c = tags_lead

pub returns-clause-flags : goal.returns-clause-flags
returns-clause-flags c = flags_are_told

pub returns-clause-leaves : goal.returns-clause-leaves
returns-clause-leaves c = leaves_lead_nowhere
