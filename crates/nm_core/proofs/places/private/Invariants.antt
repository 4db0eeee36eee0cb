use Rattle.std.proofs.Common.{◌≡◌, ◌+◌, drop}
use Rattle.nm_model.specs.Reports.{all_private}
use Rattle.nm_core.proofs.places.private.Given as goal

-- the slots so far and those of what is left are all
abbrev pub invariant-loop-worker : goal.invariant-loop-worker
invariant-loop-worker l = l.slots + all_private (drop l.worker-index l.worker-items) ≡ all_private l.worker-items
