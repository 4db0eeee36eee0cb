-- What a scan of a range leaves of its member's worker and of the slice for the keys.
use Rattle.std.specs.Prelude.{◌≡◌, ◌⊎◌, ℕ, List, None, IsSome, Result, Err}
use Rattle.nm_edge.specs.Layouts.{Layout}
use Rattle.nm_edge.specs.declared.edge.Side.{Side}
use Rattle.nm_calls.specs.declared.fault.CallFault.{CallFault}
use Rattle.nm_calls.specs.declared.fault.CallFault.TheVariants as fault
use Rattle.nm_calls.specs.declared.scanning.Scanned.{Scanned}
use Rattle.nm_tree.specs.Workers.{WorkerView}
use Rattle.nm_tree.specs.Scanning.{LeavesScan}

-- if the caller has pinned the worker, the tree's call is not made, and nothing has changed;
-- otherwise the call leaves what the tree's scan to that side leaves
abbrev pub AskedScan : Side → Layout → ℕ → ℕ → ℕ → List ℕ → List ℕ → WorkerView → WorkerView
    → Result Scanned CallFault → Type 0
AskedScan side L tries from to old new w z r =
    (IsSome w.held × (r ≡ Err fault.Pinned) × (z ≡ w) × (new ≡ old))
    ⊎ ((w.held ≡ None) × LeavesScan side L tries from to old new w z r)
