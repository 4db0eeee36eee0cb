-- What a call for the next key, or for the previous one, leaves of its member's worker.
use Rattle.std.specs.Prelude.{ℕ, Option, Result}
use Rattle.nm_edge.specs.Layouts.{Layout}
use Rattle.nm_tree.specs.Workers.{WorkerView}
use Rattle.nm_tree.specs.Calls.{LeavesNext, LeavesPrev}
use Rattle.nm_calls.specs.declared.fault.CallFault.{CallFault}
use Rattle.nm_set.specs.Asked.{Asked}

-- `AskedNext`, `AskedPrev`: for the least key that is not below this one, and for the greatest key
-- that is not above it
abbrev pub AskedNext : Layout → ℕ → ℕ → WorkerView → WorkerView → Result (Option ℕ) CallFault → Type 0
AskedNext L tries key = Asked (LeavesNext L tries key)

abbrev pub AskedPrev : Layout → ℕ → ℕ → WorkerView → WorkerView → Result (Option ℕ) CallFault → Type 0
AskedPrev L tries key = Asked (LeavesPrev L tries key)
