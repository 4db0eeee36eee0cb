use Rattle.nm_model.specs.Lawful.{CountsAddUp}
use Rattle.nm_laws.specs.Cardinality.{CountsAreNumbersOfSlots}
use Rattle.nm_laws.proofs.Counts.{each_state_adds_up}
use Rattle.nm_laws.proofs.PlaceCounts.{each_count_is_a_number_of_slots}
use Rattle.nm_laws.proofs.Reachable.{of_reachable}
use Rattle.nm_laws.proofs.Configurations.{reached_state}
use Rattle.nm_core.proofs.pure_core.Core.places.Goals as goal

pub places-requires-clause-fits : goal.places-requires-clause-fits
places-requires-clause-fits c = c.self.invariant.fits

pub places-requires-clause-sum : goal.places-requires-clause-sum
places-requires-clause-sum c = of_reachable CountsAddUp each_state_adds_up _ (reached_state _ c.self.invariant)

pub returns-clause-sum : goal.returns-clause-sum
returns-clause-sum c = rw (← c.self.view_is) (of_reachable CountsAddUp each_state_adds_up _
    (reached_state _ c.self.invariant))

pub returns-clause-slots : goal.returns-clause-slots
returns-clause-slots c = rw (← c.self.view_is, c.places.ensures)
    (of_reachable CountsAreNumbersOfSlots each_count_is_a_number_of_slots _ (reached_state _ c.self.invariant))
