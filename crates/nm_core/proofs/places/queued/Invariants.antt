use Rattle.std.proofs.Common.{◌≡◌, ◌+◌, drop}
use Rattle.nm_model.specs.Reports.{all_queued}
use Rattle.nm_core.proofs.places.queued.Given as goal

-- the entries so far and those of what is left are all
abbrev pub invariant-loop-worker : goal.invariant-loop-worker
invariant-loop-worker l = l.entries + all_queued (drop l.worker-index l.worker-items) ≡ all_queued l.worker-items
