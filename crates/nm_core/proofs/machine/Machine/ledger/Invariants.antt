use Rattle.std.proofs.Common.{◌≡◌, drop}
use Rattle.nm_model.specs.Reports.{ledger_among}
use Rattle.nm_core.proofs.machine.Machine.ledger.Given as goal

-- no worker so far holds it
abbrev pub invariant-loop-worker : goal.invariant-loop-worker
invariant-loop-worker l = ledger_among (drop l.worker-index l.worker-items) l.origin
    ≡ ledger_among l.worker-items l.origin
