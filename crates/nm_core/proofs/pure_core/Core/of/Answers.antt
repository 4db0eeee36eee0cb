use Rattle.nm_laws.proofs.Configurations.{reached_plain, reached_ordered}
use Rattle.nm_core.proofs.pure_core.Core.of.Goals as goal

pub invariant_of-result : goal.invariant_of-result
invariant_of-result c = rw c.in_ok-machine.ensures (reached_plain _ c.workers-workers.ensures.fits)

pub invariant_of-result-2 : goal.invariant_of-result-2
invariant_of-result-2 c = rw (c.in_ok-machine.ensures, c.in_ok-searches.ensures, c.workers-workers.ensures.workers)
    (reached_ordered _ c.workers-workers.ensures.fits)
