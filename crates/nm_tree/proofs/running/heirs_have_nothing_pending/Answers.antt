use Rattle.nm_tree.proofs.Settling.{heirs_have_nothing_pending, resting_workers_have_nothing_pending}
use Rattle.nm_tree.proofs.running.heirs_have_nothing_pending.Goals as goal

pub returns : goal.returns
returns c = record { heirs = heirs_have_nothing_pending; resting = resting_workers_have_nothing_pending }
