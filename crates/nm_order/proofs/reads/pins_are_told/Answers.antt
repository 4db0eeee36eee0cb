use Rattle.nm_order.proofs.PinsOfLogs.{pins_are_told as in_every_run}
use Rattle.nm_order.proofs.reads.pins_are_told.Goals as goal

pub returns : goal.returns
returns c = in_every_run
