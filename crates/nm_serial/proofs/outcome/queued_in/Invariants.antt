use Rattle.std.proofs.Common.{◌≡◌, take}
use Rattle.nm_tree.specs.Workers.{waiting_in}
use Rattle.nm_serial.proofs.outcome.queued_in.Given as goal

abbrev pub invariant-loop-held : goal.invariant-loop-held
invariant-loop-held l = l.queued ≡ waiting_in (take l.held-index l.queues)
