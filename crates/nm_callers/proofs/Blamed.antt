-- Who holds memory back, by the clauses of a managed insert.
use Rattle.std.proofs.Common.{◌≡◌, ℕ, refl, subst}
use Rattle.std.specs.Prelude.{Option, Some, None}
use Rattle.nm_tree.specs.Workers.{WorkerView}
use Rattle.nm_set.specs.declared.fault.Fullness.{Fullness}
use Rattle.nm_set.specs.Managed.{FindsBehind, Since, WasFull}
use Rattle.nm_callers.specs.Blame.{IsToBlame}

pub blames : (w z : WorkerView) (f : Fullness) → WasFull w z f → IsToBlame w z f.behind
blames w z f was = by f.behind was.finds
  where
    by : (behind : Option ℕ) → Since w.pass z.pass (FindsBehind w.pass.view.number behind) → IsToBlame w z behind
    by (Some i) found = found
    by None found = found
