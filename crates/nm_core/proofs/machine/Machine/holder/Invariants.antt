use Rattle.std.proofs.Common.{◌≡◌, drop}
use Rattle.nm_model.specs.Reports.{holder_from}
use Rattle.nm_core.proofs.machine.Machine.holder.Given as goal

-- no worker so far holds it
abbrev pub invariant-loop-number : goal.invariant-loop-number
invariant-loop-number l = holder_from l.number (drop l.number l.self.workers) l.origin
    ≡ holder_from 0 l.self.workers l.origin
