use Rattle.nm_order.proofs.ReadEpochs.{epochs_are_read_in_order as in_every_run}
use Rattle.nm_order.proofs.reads.epochs_are_read_in_order.Goals as goal

pub returns : goal.returns
returns c = in_every_run
