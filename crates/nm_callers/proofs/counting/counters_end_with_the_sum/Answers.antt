use Rattle.nm_callers.proofs.Counters.{counters_end_with_the_sum as proved}
use Rattle.nm_callers.proofs.counting.counters_end_with_the_sum.Goals as goal

pub returns : goal.returns
returns c = proved
