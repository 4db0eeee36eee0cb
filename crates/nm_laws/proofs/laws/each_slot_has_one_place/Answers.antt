use Rattle.nm_laws.proofs.OnePlace.{each_slot_has_one_place as every_run}
use Rattle.nm_laws.proofs.laws.each_slot_has_one_place.Goals as goal

pub returns : goal.returns
returns c = every_run
