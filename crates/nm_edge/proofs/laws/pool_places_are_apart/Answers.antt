use Rattle.nm_edge.proofs.Words.{masks_apart, places_apart, places_are_rows}
use Rattle.nm_edge.proofs.laws.pool_places_are_apart.Goals as goal

pub returns-clause-masks : goal.returns-clause-masks
returns-clause-masks c = masks_apart

pub returns-clause-places : goal.returns-clause-places
returns-clause-places c = places_apart

pub returns-clause-rows : goal.returns-clause-rows
returns-clause-rows c = places_are_rows
