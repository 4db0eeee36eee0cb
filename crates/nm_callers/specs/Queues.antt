-- A queue of tasks that members share: the tasks that they have inserted and popped, and those that
-- are left.
use Rattle.std.specs.Prelude.{◌≡◌, ◌+◌, ℕ, List, None, length, sum_by}
use Rattle.nm_walks.specs.WonCounts.{won_flags, won_links}
use Rattle.nm_calls.specs.Won.{HasWon}
use Rattle.nm_steps.specs.Steps.{TreeView, HasSeenAllOf, IsSamePass}
use Rattle.nm_tree.specs.Workers.{WorkerView}
use Rattle.nm_set.specs.Seats.{MemberView}

-- the worker is not pinned by its caller, and has nothing pending
pub record IsAtRest (w : WorkerView) : Type 0 where
  pub free : w.held ≡ None
  pub settled : w.pending ≡ None

-- the worker has gone on, has inserted and popped these numbers of tasks, and is at rest again
pub record HasWorked (w z : WorkerView) (added taken : ℕ) : Type 0 where
  pub same : IsSamePass w.pass z.pass
  pub past : HasSeenAllOf z.pass w.pass
  pub won : HasWon w.pass.view.log z.pass.view.log added taken
  pub rest : IsAtRest z

-- the member of worker k of that tree, with nothing pending
pub record IsWorkerOf (b : TreeView) (k : ℕ) (m : MemberView) : Type 0 where
  pub tree : m.tree ≡ b
  pub number : m.worker.pass.view.number ≡ k
  pub settled : m.worker.pending ≡ None

-- `added_by`, `taken_by`: how many tasks these workers have inserted, and popped: their links and
-- flags
abbrev pub added_by : List WorkerView → ℕ
added_by ws = sum_by (λ (w : WorkerView). won_links w.pass.view.log) ws

abbrev pub taken_by : List WorkerView → ℕ
taken_by ws = sum_by (λ (w : WorkerView). won_flags w.pass.view.log) ws

-- these workers have inserted as many tasks as they have popped and as are left
abbrev pub AddUp : List WorkerView → List ℕ → Type 0
AddUp ws left = added_by ws ≡ taken_by ws + length left
