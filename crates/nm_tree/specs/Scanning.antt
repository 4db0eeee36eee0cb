-- What a scan of a range leaves of its worker, by its answer.
use Rattle.std.specs.Prelude.{◌≡◌, ◌≢◌, ◌⊎◌, ◌+◌, ◌*◌, ◌≤◌, ℕ, List, length, take, None, Result, IfOk, IfErr, IfSome, IsErrOf}
use Rattle.nm_edge.specs.Keys.{IsKey}
use Rattle.nm_edge.specs.Layouts.{Layout}
use Rattle.nm_edge.specs.declared.edge.Side.{Side}
use Rattle.nm_steps.specs.Steps.{IsSamePass, HasSeenAllOf}
use Rattle.nm_walks.specs.Bounds.{reach}
use Rattle.nm_calls.specs.declared.fault.CallFault.{CallFault}
use Rattle.nm_calls.specs.declared.fault.CallFault.TheVariants as fault
use Rattle.nm_calls.specs.declared.scanning.Scanned.{Scanned}
use Rattle.nm_calls.specs.NearKeys.{IsPast, bound}
use Rattle.nm_calls.specs.PlainWalks.{WasSo}
use Rattle.nm_calls.specs.Scans.{GiveUp, IsFull, IsIn, IsRangeBy, count_of, end_of, leg_looks, most_keys}
use Rattle.nm_calls.specs.Won.{HasWon}
use Rattle.nm_progress.specs.Alone.{IsAlone}
use Rattle.nm_progress.specs.Lookups.{WasReshaped}
use Rattle.nm_progress.specs.Walked.{ManyWereBusy}
use Rattle.nm_tree.specs.Looked.{HasSeenMore}
use Rattle.nm_tree.specs.Workers.{WorkerView}

-- what a scan from a key on to a side, up to a bound, leaves of its worker: the fields are those of
-- `LeavesHasMany`. The first keys of `out` are those that the set had, each at a moment
-- (linearization point) of the call, in the order of the scan; and each other key of the range was
-- absent at one, up to the key at which the next scan continues (`moment`). There are at most as
-- many as `out` has room for (`count`). That key is in the range, and it is beyond the first one if
-- there is room for a key (`next`). There is such a key only if `out` is full, or the call had one
-- try, or others linked or cut off a node during the call (`early`). So a call that has two tries,
-- and during which no other worker makes a transition, ends with its range or its room (`whole`).
-- After an error `out` is as it was (`kept`)
pub record LeavesScan (side : Side) (L : Layout) (tries from to : ℕ) (old out : List ℕ)
    (w z : WorkerView) (r : Result Scanned CallFault) : Type 0 where
  pub same : IsSamePass w.pass z.pass
  pub past : HasSeenAllOf z.pass w.pass
  pub did : HasSeenMore (GiveUp L from) tries ((count_of r + tries) * leg_looks (reach L)) w z r
  pub interfered : IsErrOf r fault.Busy → ManyWereBusy w.pass z.pass tries
  pub alone : IsAlone w.pass z.pass → IsErrOf r fault.Busy → tries ≡ 0
  pub moment : IfOk r (λ s. IsRangeBy side (WasSo w.pass z.pass) (bound side from)
      (end_of side to s.next) (take s.count out))
  pub count : IfOk r (λ s. (s.count ≤ length out) × (s.count ≤ most_keys))
  pub next : IfOk r (λ s. IfSome s.next (λ k. IsKey k × IsIn side (bound side from) to k
      × (length out ≢ 0 → IsPast side from k)))
  pub early : IfOk r (λ s. IfSome s.next (λ k. IsFull (length out) s.count ⊎ (tries ≤ 1)
      ⊎ WasReshaped w.pass z.pass 1))
  pub whole : IsAlone w.pass z.pass → 2 ≤ tries
      → IfOk r (λ s. IfSome s.next (λ k. IsFull (length out) s.count))
  pub kept : IfErr r (λ e. out ≡ old)
  pub won : HasWon w.pass.view.log z.pass.view.log 0 0
  pub steps : length z.pass.view.log
      ≤ length w.pass.view.log + 3 * tries + (count_of r + tries) * leg_looks (reach L) + 2
  pub queues : z.queues ≡ w.queues
  pub held : z.held ≡ None
  pub fit : z.fit ≡ w.fit
