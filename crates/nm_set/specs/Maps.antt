-- Maps: what managed calls and collections of a map leave.
use Rattle.std.specs.Prelude.{◌≡◌, ◌≢◌, ◌≤◌, ◌+◌, ◌*◌, ℕ, nat_lt, Bool, true, List, length, take, Option, Some, None, Result, Ok, Err, IfOk, IfErr, IfSome}
use Rattle.nm_edge.specs.Layouts.{Layout}
use Rattle.nm_model.specs.declared.event.Op.{Op}
use Rattle.nm_model.specs.declared.event.Op.TheVariants.{Has}
use Rattle.nm_progress.specs.Alone.{IsAlone}
use Rattle.nm_steps.specs.declared.view.Stored.{Stored}
use Rattle.nm_steps.specs.Rules.{ExtendsStores}
use Rattle.nm_steps.specs.Steps.{PassView, TreeView}
use Rattle.nm_walks.specs.Bounds.{reach}
use Rattle.nm_calls.specs.Maps.{MapGave, WasTaken}
use Rattle.nm_calls.specs.PlainWalks.{most_looks}
use Rattle.nm_calls.specs.Won.{HasWon}
use Rattle.nm_calls.specs.declared.many.Query.{Query}
use Rattle.nm_calls.specs.declared.fault.CallFault.{CallFault}
use Rattle.nm_calls.specs.declared.fault.CallFault.TheVariants as fault
use Rattle.nm_epoch.specs.declared.answers.Advance.{Advance}
use Rattle.nm_epoch.specs.declared.handing.HandedOut.{HandedOut}
use Rattle.nm_tree.specs.Answers.{FailsAlone, FreesNone}
use Rattle.nm_tree.specs.Calls.{LeavesAdvance, LeavesPinnedGet, LeavesPinnedGetMany}
use Rattle.nm_tree.specs.Handing.{LeavesCollectValues}
use Rattle.nm_tree.specs.Workers.{WorkerView}
use Rattle.nm_set.specs.declared.fault.PinnedGetFault.{PinnedGetFault}
use Rattle.nm_set.specs.declared.fault.PinnedGetFault.TheVariants as getting
use Rattle.nm_set.specs.declared.managed.Options.{Options}
use Rattle.nm_set.specs.Asked.{UnlessPinned}
use Rattle.nm_set.specs.Managed.{FinishesFirst, GoesOn, IsLeft, ManagesIn, MetInterference, StaysPending, round_bound}
use Rattle.nm_set.specs.Rounds.{found_behind}

-- the values that came back are the first `result.values` ones of the slice, which is as long as
-- before. If it is not full, no ripe node is left at the front of a queue
pub record HandsInto (nodes : ℕ) (old new : List ℕ) (w z : WorkerView) (result : HandedOut) : Type 0 where
  pub leaves : LeavesCollectValues nodes (nat_lt result.values (length new)) w z
      (take result.values new) result
  pub long : length new ≡ length old
  pub few : result.values ≤ length new

-- the result of a look-up under the caller's pin, which can fail for one reason alone
abbrev pub of_pinned : {A : Type 0} → Result A CallFault → Result A PinnedGetFault
of_pinned (Ok found) = Ok found
of_pinned (Err f) = Err getting.Busy

-- what a call for a value under the caller's pin leaves: what the tree's call leaves; or nothing has
-- changed, because the caller has not pinned the worker
abbrev pub SaysPinnedGet : Layout → ℕ → WorkerView → WorkerView → Result (Option ℕ) PinnedGetFault
    → Type 0
SaysPinnedGet L k w z (Ok found) = LeavesPinnedGet L k w z (Ok found)
SaysPinnedGet L k w z (Err getting.Busy) = LeavesPinnedGet L k w z (Err fault.Busy)
SaysPinnedGet L k w z (Err getting.NotPinned) = (w.held ≡ None) × (z ≡ w)

-- the same for a call for the values of several queries, from the old ones to the new ones
abbrev pub SaysPinnedGetMany : Layout → List Query → List Query → WorkerView → WorkerView
    → Result (Unit {0}) PinnedGetFault → Type 0
SaysPinnedGetMany L old new w z (Ok u) = LeavesPinnedGetMany L old new w z (Ok u)
SaysPinnedGetMany L old new w z (Err getting.Busy) = LeavesPinnedGetMany L old new w z (Err fault.Busy)
SaysPinnedGetMany L old new w z (Err getting.NotPinned) = (w.held ≡ None) × (z ≡ w) × (new ≡ old)

-- ---- managed calls

-- the most steps of one look-up of a value
abbrev pub look_bound : ℕ → Layout → ℕ
look_bound tries L = 3 * tries + most_looks (reach L) 1 + 2

-- look-ups of a value, made until one is answered: the map gave the answer at a moment
-- (linearization point) that is later than all that the worker had seen before. They have won
-- nothing, and have made at most `most` steps. If each of `rounds` look-ups was busy, though it had a
-- try, they met interference as often; and if the worker ran alone, it had no try (`alone`)
pub record AnswersGet (k most rounds tries : ℕ) (w z : WorkerView) (r : Result (Option ℕ) CallFault) : Type 0 where
  pub moment : IfOk r (MapGave w.pass z.pass k)
  pub left : IsLeft Has k w z r
  pub won : HasWon w.pass.view.log z.pass.view.log 0 0
  pub on : GoesOn most w z
  pub busy : r ≡ Err fault.Busy → 1 ≤ tries → MetInterference Has w.pass z.pass rounds
  pub alone : IsAlone w.pass z.pass → r ≡ Err fault.Busy → tries ≡ 0

-- a managed look-up of a value: its answer, and the remove of an earlier call, which it finished
-- first. If the worker ran alone, an error is due to a number of tries that is 0, or to that remove
-- (`alone`). It stays pending for a lack of room, or because others changed edges (`pending`). If no
-- remove was pending, the worker has seen all stores that it had seen (`stores`). It has freed no node
-- (`frees`)
pub record ManagesGet (b : TreeView) (h : Options) (k : ℕ) (w z : WorkerView)
    (r : Result (Option ℕ) CallFault) : Type 0 where
  pub answers : AnswersGet k
      ((h.rounds + 1) * (round_bound h.tries b.layout + look_bound h.tries b.layout)) (h.rounds + 1)
      h.tries w z r
  pub begins : r ≢ Err fault.Pending → (begun : PassView) × FinishesFirst w begun
      × IfOk r (MapGave begun z.pass k)
  pub stores : w.pending ≡ None → ExtendsStores z.pass.view.stores w.pass.view.stores
  pub alone : IsAlone w.pass z.pass → IfErr r (FailsAlone 1 1 h.tries z)
  pub pending : r ≡ Err fault.Pending → StaysPending h w z
  pub frees : FreesNone w z

-- what a caller learns from a managed look-up of a value
abbrev pub SaysGet : TreeView → Options → ℕ → WorkerView → WorkerView → Result (Option ℕ) CallFault → Type 0
SaysGet b h k w z r = UnlessPinned (ManagesGet b h k w z r) w z r

-- what a caller learns from a managed insert or remove of a map, which collects nothing
abbrev pub SaysChange : Op → TreeView → Options → ℕ → WorkerView → WorkerView → Result Bool CallFault → Type 0
SaysChange op b h k w z r = UnlessPinned (ManagesIn true b h op k w z r) w z r

-- the worker took the key with this value in the call, by the stores that it had seen then
pub record TookMeanwhile (p q : PassView) (k v : ℕ) : Type 0 where
  pub stores : List Stored
  pub taken : WasTaken q.view.layout p.view.past q.view.past stores q.view.number k v

-- the map had the key that was found with this value at a moment of the call
abbrev pub FindsValue : PassView → PassView → ℕ → Result (Option ℕ) CallFault → Type 0
FindsValue p q v r = IfOk r (λ found. IfSome found (λ k. MapGave p q k (Some v)))

-- a pop that returns a key took it with this value
abbrev pub PopsValue : PassView → PassView → ℕ → Result (Option ℕ) CallFault → Type 0
PopsValue p q v (Ok (Some k)) = TookMeanwhile p q k v
PopsValue p q v _ = Unit {0}

-- two attempts to advance the epoch, and a collection that writes values; `behind` is the worker that
-- was found to hold the epoch back
pub record LeavesReclaim (L : Layout) (old new : List ℕ) (w z : WorkerView) (behind : Option ℕ)
    (handed : HandedOut) : Type 0 where
  pub once : WorkerView
  pub first : Advance
  pub advanced : LeavesAdvance L.workers w once first
  pub twice : WorkerView
  pub second : Advance
  pub again : LeavesAdvance L.workers once twice second
  pub found : behind ≡ found_behind first second
  pub hands : HandsInto L.nodes old new twice z handed
