use Rattle.nm_laws.proofs.PlaceCounts.{each_count_is_a_number_of_slots}
use Rattle.nm_laws.proofs.laws.counts_are_numbers_of_slots.Goals as goal

pub returns : goal.returns
returns c = each_count_is_a_number_of_slots
