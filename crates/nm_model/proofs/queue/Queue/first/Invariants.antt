use Rattle.std.proofs.Common.{◌≡◌, drop}
use Rattle.nm_model.specs.Queues.{entry_at}
use Rattle.nm_model.proofs.queue.Queue.first.Given as goal

-- no entry so far is of the slot
abbrev pub invariant-loop-entry : goal.invariant-loop-entry
invariant-loop-entry l = entry_at (drop l.entry-index l.entry-items) l.slot ≡ entry_at l.entry-items l.slot
