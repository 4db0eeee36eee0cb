-- What each call leaves of its member's worker: what the tree's call of the same name leaves,
-- unless the caller has pinned the worker.
use Rattle.std.specs.Prelude.{◌≡◌, ◌⊎◌, ℕ, Bool, None, IsSome, Result, Ok, Err, IfErr}
use Rattle.nm_edge.specs.Layouts.{Layout}
use Rattle.nm_progress.specs.Alone.{IsAlone, RunsAlone}
use Rattle.nm_progress.specs.Lost.{ChangeWasBusy}
use Rattle.nm_tree.specs.Answers.{DeleteWasLost, FailsAlone, FinishWasLost, FreesNone}
use Rattle.nm_calls.specs.declared.fault.CallFault.{CallFault}
use Rattle.nm_calls.specs.declared.fault.CallFault.TheVariants as fault
use Rattle.nm_tree.specs.declared.fault.PinFault.{PinFault}
use Rattle.nm_tree.specs.declared.fault.PinFault.TheVariants as pinning
use Rattle.nm_tree.specs.Workers.{WorkerView}
use Rattle.nm_tree.specs.Calls.{LeavesPin, LeavesUnpin, SaysInsert, SaysDelete, SaysFinish}
use Rattle.nm_set.specs.declared.fault.NotPinned.{NotPinned}

-- if the caller has pinned the worker, the call does nothing, and nothing has changed; otherwise
-- the property holds
abbrev pub UnlessPinned : {A : Type 0} → Type 0 → WorkerView → WorkerView → Result A CallFault → Type 0
UnlessPinned does w z r =
    (IsSome w.held × (r ≡ Err fault.Pinned) × (z ≡ w)) ⊎ ((w.held ≡ None) × does)

-- the same for what the tree's call leaves
abbrev pub Asked : {A : Type 0} → (WorkerView → WorkerView → Result A CallFault → Type 0) → WorkerView
    → WorkerView → Result A CallFault → Type 0
Asked leaves w z r = UnlessPinned (leaves w z r) w z r

-- `AskedToPin`, `AskedToUnpin`: the same for a pin, and for an unpin; only a worker that its caller
-- has pinned is unpinned
abbrev pub AskedToPin : ℕ → WorkerView → WorkerView → Result ℕ PinFault → Type 0
AskedToPin tries w z r = (IsSome w.held × (r ≡ Err pinning.Pinned) × (z ≡ w))
    ⊎ ((w.held ≡ None) × LeavesPin tries w z r)

abbrev pub AskedToUnpin : WorkerView → WorkerView → Result (Unit {0}) NotPinned → Type 0
AskedToUnpin w z (Ok _) = IsSome w.held × LeavesUnpin w z
AskedToUnpin w z (Err _) = (w.held ≡ None) × (z ≡ w)

-- `SaysTryInsert`, `SaysTryRemove`, `SaysGoOn`: what a caller learns from an insert of the tree, and
-- why it was busy; from a remove, and why it was busy or is not finished; and from a call that goes
-- on with a remove, and why that is not finished. `alone` is why the call failed if it ran alone. A call that
-- goes on with a remove frees no node (`frees`)
pub record SaysTryInsert (L : Layout) (tries k : ℕ) (w z : WorkerView) (r : Result Bool CallFault) : Type 0 where
  pub says : Asked (SaysInsert L tries k) w z r
  pub busy : r ≡ Err fault.Busy → ChangeWasBusy w.pass z.pass tries
  pub alone : RunsAlone w.pass z.pass → IfErr r (FailsAlone 1 1 tries z)

pub record SaysTryRemove (L : Layout) (tries k : ℕ) (w z : WorkerView) (r : Result Bool CallFault) : Type 0 where
  pub says : Asked (SaysDelete L tries k) w z r
  pub busy : r ≡ Err fault.Busy → ChangeWasBusy w.pass z.pass tries
  pub unfinished : r ≡ Err fault.Unfinished → DeleteWasLost tries w z
  pub alone : RunsAlone w.pass z.pass → IfErr r (FailsAlone 1 2 tries z)

pub record SaysGoOn (L : Layout) (tries : ℕ) (w z : WorkerView) (r : Result Bool CallFault) : Type 0 where
  pub says : SaysFinish L tries w z r
  pub unfinished : r ≡ Err fault.Unfinished → FinishWasLost tries w z
  pub alone : IsAlone w.pass z.pass → IfErr r (FailsAlone 1 1 tries z)
  pub frees : FreesNone w z
