-- What a call requires of its worker, and what each call leaves of it: all that it ensures, in one
-- record.
use Rattle.std.specs.Prelude.{◌≡◌, ◌+◌, ◌*◌, ◌≤◌, ℕ, Bool, List, [], ◌∷◌, length, map, Option, None, Result, IfOk, IfErr, IsErrOf, All}
use Rattle.nm_edge.specs.Layouts.{Layout}
use Rattle.nm_edge.specs.declared.edge.Side.{Side}
use Rattle.nm_edge.specs.declared.edge.Side.TheVariants.{Left, Right}
use Rattle.nm_model.specs.declared.event.Event.TheVariants.{Leave}
use Rattle.nm_model.specs.declared.event.Op.TheVariants.{Has, Insert, Delete}
use Rattle.nm_model.specs.declared.reply.Reply.TheVariants.{Departed}
use Rattle.nm_model.specs.Walks.{Entry as LogEntry}
use Rattle.nm_order.specs.Reads.{HasRead}
use Rattle.nm_steps.specs.Rules.{ExtendsStores}
use Rattle.nm_steps.specs.Steps.{TreeView, PassView, IsOf, IsSamePass, HasSeenAllOf, Stepped}
use Rattle.nm_epoch.specs.declared.answers.Advance.{Advance}
use Rattle.nm_epoch.specs.declared.answers.Behind.{Behind}
use Rattle.nm_epoch.specs.declared.collecting.Collected.{Collected}
use Rattle.nm_epoch.specs.declared.collecting.Entry.{Entry}
use Rattle.nm_epoch.specs.Collecting.{IsCollection, HaveLost, AreTrimmed, ripe_of}
use Rattle.nm_epoch.specs.Resting.{epochs}
use Rattle.nm_epoch.specs.Scans.{IsAdvance}
use Rattle.nm_epoch.specs.Watches.{IsBehind}
use Rattle.nm_calls.specs.declared.many.Query.{Query}
use Rattle.nm_walks.specs.AddedLooks.{AddsLooks}
use Rattle.nm_walks.specs.Bounds.{reach}
use Rattle.nm_calls.specs.Bounds.{IsWithinBound, IsWithinClaims}
use Rattle.nm_calls.specs.InTurns.{WasSo, key_of, GiveUp as GiveUpInTurns}
use Rattle.nm_calls.specs.Maps.{MapGave, MapGaveUnderPin}
use Rattle.nm_calls.specs.Moments.{AnswerHasMoment}
use Rattle.nm_calls.specs.NearKeys.{WasNear, GiveUp}
use Rattle.nm_calls.specs.PlainWalks.{most_looks}
use Rattle.nm_calls.specs.ValuesInTurns.{answer_of}
use Rattle.nm_calls.specs.Won.{HasWon}
use Rattle.nm_progress.specs.Alone.{IsAlone, RunsAlone}
use Rattle.nm_progress.specs.Lookups.{WasBusy}
use Rattle.nm_progress.specs.Lost.{ChangeWasBusy}
use Rattle.nm_progress.specs.Walked.{ManyWereBusy, NearWasBusy}
use Rattle.nm_calls.specs.declared.fault.CallFault.{CallFault}
use Rattle.nm_calls.specs.declared.fault.CallFault.TheVariants as fault
use Rattle.nm_tree.specs.declared.fault.PinFault.{PinFault}
use Rattle.nm_tree.specs.Answers.{HasAnswered, HasInserted, HasDeleted, HasFinished, FinishHasMoment, HasTold, InsertTold, DeleteTold, FinishTold, DeleteLacks, FinishLacks, HasPinned, KeepsPlace, links_won, flags_won, DeleteWasLost, FinishWasLost, FailsAlone}
use Rattle.nm_tree.specs.InTurns.{HasAnsweredMany}
use Rattle.nm_tree.specs.Looked.{HasSeenMore}
use Rattle.nm_tree.specs.Running.{IsFreedInGrace}
use Rattle.nm_tree.specs.Workers.{WorkerView, KeepsOtherQueues, TakeRoom}

-- the worker is one of this tree's, and its caller has not pinned it
pub record MayCall (b : TreeView) (w : WorkerView) : Type 0 where
  pub own : IsOf b w.pass
  pub free : w.held ≡ None

-- `SaysHas`, `SaysInsert`, `SaysDelete`, `SaysFinish`: what a caller learns from such a call, by
-- its answer, of the worker before it and after it. The pass is the same one, and has seen all that
-- it had seen (`same`, `past`). `told` is what the answer shows of the worker. `interfered` is what
-- others did if a look-up was busy. An answer was right at a moment (linearization point) of the
-- call (`moment`). `won` counts the links and flags that were won, and `steps` bounds the log.
-- `queues` and `blocks` are about the queues and their memory. The caller's pin is as before, or
-- there is none (`held`), and the worker claims as before (`fit`). `LeavesHas` and the others that
-- begin with `Leaves` have these fields (`says`), and also how the call was done (`did`), and why
-- it gave up (`lacks`, `interfered`, `lost`), and why it failed if it ran alone (`alone`)
pub record SaysHas (L : Layout) (tries k : ℕ) (w z : WorkerView) (r : Result Bool CallFault) : Type 0 where
  pub same : IsSamePass w.pass z.pass
  pub past : HasSeenAllOf z.pass w.pass
  pub told : HasTold w z r
  pub interfered : IsErrOf r fault.Busy → WasBusy w.pass z.pass tries
  pub moment : IfOk r (AnswerHasMoment w.pass z.pass Has k)
  pub won : HasWon w.pass.view.log z.pass.view.log 0 0
  pub steps : IsWithinBound L tries w.pass.view.log z.pass.view.log
  pub queues : z.queues ≡ w.queues
  pub held : z.held ≡ None
  pub fit : z.fit ≡ w.fit

pub record LeavesHas (L : Layout) (tries k : ℕ) (w z : WorkerView) (r : Result Bool CallFault) : Type 0 where
  pub says : SaysHas L tries k w z r
  pub did : HasAnswered L tries k w z r
  pub alone : IsAlone w.pass z.pass → IfErr r (FailsAlone 1 1 tries z)

pub record SaysInsert (L : Layout) (tries k : ℕ) (w z : WorkerView) (r : Result Bool CallFault) : Type 0 where
  pub same : IsSamePass w.pass z.pass
  pub past : HasSeenAllOf z.pass w.pass
  pub told : InsertTold w z r
  pub moment : IfOk r (AnswerHasMoment w.pass z.pass Insert k)
  pub won : HasWon w.pass.view.log z.pass.view.log (links_won r) 0
  pub steps : IsWithinClaims L tries w.pass.view.log z.pass.view.log
  pub queues : KeepsOtherQueues w.pass.view.number w.queues z.queues
  pub blocks : TakeRoom w.queues z.queues
  pub held : z.held ≡ None
  pub fit : z.fit ≡ w.fit

pub record LeavesInsert (L : Layout) (tries k : ℕ) (w z : WorkerView) (r : Result Bool CallFault) : Type 0 where
  pub says : SaysInsert L tries k w z r
  pub did : HasInserted L tries k w z r
  pub interfered : IsErrOf r fault.Busy → ChangeWasBusy w.pass z.pass tries
  pub alone : RunsAlone w.pass z.pass → IfErr r (FailsAlone 1 1 tries z)

pub record SaysDelete (L : Layout) (tries k : ℕ) (w z : WorkerView) (r : Result Bool CallFault) : Type 0 where
  pub same : IsSamePass w.pass z.pass
  pub past : HasSeenAllOf z.pass w.pass
  pub told : DeleteTold k w z r
  pub moment : IfOk r (AnswerHasMoment w.pass z.pass Delete k)
  pub won : HasWon w.pass.view.log z.pass.view.log 0 (flags_won r)
  pub steps : IsWithinBound L tries w.pass.view.log z.pass.view.log
  pub queues : KeepsOtherQueues w.pass.view.number w.queues z.queues
  pub blocks : TakeRoom w.queues z.queues
  pub held : z.held ≡ None
  pub fit : z.fit ≡ w.fit

pub record LeavesDelete (L : Layout) (tries k : ℕ) (w z : WorkerView) (r : Result Bool CallFault) : Type 0 where
  pub says : SaysDelete L tries k w z r
  pub did : HasDeleted L tries k w z r
  pub lacks : IfErr r (DeleteLacks L tries k w z)
  pub interfered : IsErrOf r fault.Busy → ChangeWasBusy w.pass z.pass tries
  pub lost : IsErrOf r fault.Unfinished → DeleteWasLost tries w z
  pub alone : RunsAlone w.pass z.pass → IfErr r (FailsAlone 1 2 tries z)

pub record SaysFinish (L : Layout) (tries : ℕ) (w z : WorkerView) (r : Result Bool CallFault) : Type 0 where
  pub same : IsSamePass w.pass z.pass
  pub past : HasSeenAllOf z.pass w.pass
  pub told : FinishTold w z r
  pub moment : FinishHasMoment w z r
  pub won : HasWon w.pass.view.log z.pass.view.log 0 0
  pub steps : IsWithinBound L tries w.pass.view.log z.pass.view.log
  pub queues : KeepsOtherQueues w.pass.view.number w.queues z.queues
  pub blocks : TakeRoom w.queues z.queues
  pub held : z.held ≡ w.held
  pub fit : z.fit ≡ w.fit

pub record LeavesFinish (L : Layout) (tries : ℕ) (w z : WorkerView) (r : Result Bool CallFault) : Type 0 where
  pub says : SaysFinish L tries w z r
  pub did : HasFinished L tries w z r
  pub lacks : IfErr r (FinishLacks L tries w z)
  pub lost : IsErrOf r fault.Unfinished → FinishWasLost tries w z
  pub alone : IsAlone w.pass z.pass → IfErr r (FailsAlone 1 1 tries z)

-- `LeavesGet`: the same for a look-up of a value. The map gave its answer at a moment (linearization
-- point) of the call. A call that has a try is not busy if no other worker makes a transition during
-- it (`alone`)
pub record LeavesGet (L : Layout) (tries k : ℕ) (w z : WorkerView) (r : Result (Option ℕ) CallFault) : Type 0 where
  pub same : IsSamePass w.pass z.pass
  pub past : HasSeenAllOf z.pass w.pass
  pub stores : ExtendsStores z.pass.view.stores w.pass.view.stores
  pub did : HasSeenMore (GiveUpInTurns L (k ∷ [])) tries (most_looks (reach L) 1) w z r
  pub interfered : IsErrOf r fault.Busy → ManyWereBusy w.pass z.pass tries
  pub alone : IsAlone w.pass z.pass → IsErrOf r fault.Busy → tries ≡ 0
  pub moment : IfOk r (MapGave w.pass z.pass k)
  pub won : HasWon w.pass.view.log z.pass.view.log 0 0
  pub steps : length z.pass.view.log
      ≤ length w.pass.view.log + 3 * tries + most_looks (reach L) 1 + 2
  pub queues : z.queues ≡ w.queues
  pub held : z.held ≡ None
  pub fit : z.fit ≡ w.fit

-- `LeavesPinnedGet`: the same for a look-up of a value by a worker that its caller has pinned. The map
-- gave its answer at a moment (linearization point) of the call. The call is busy only if its walk
-- gave up
pub record LeavesPinnedGet (L : Layout) (k : ℕ) (w z : WorkerView) (r : Result (Option ℕ) CallFault) : Type 0 where
  pub same : IsSamePass w.pass z.pass
  pub past : HasSeenAllOf z.pass w.pass
  pub did : AddsLooks (most_looks (reach L) 1) w.pass.view.log z.pass.view.log
  pub gave : IfErr r (λ e. (e ≡ fault.Busy) × GiveUpInTurns L (k ∷ []) w.pass.view.log z.pass.view.log)
  pub moment : IfOk r (MapGaveUnderPin w.pass z.pass k)
  pub won : HasWon w.pass.view.log z.pass.view.log 0 0
  pub place : KeepsPlace w z
  pub queues : z.queues ≡ w.queues
  pub fit : z.fit ≡ w.fit

-- `LeavesPinnedGetMany`: the same for a look-up of the values of several queries, from the old ones to
-- the new ones
pub record LeavesPinnedGetMany (L : Layout) (old new : List Query) (w z : WorkerView)
    (r : Result (Unit {0}) CallFault) : Type 0 where
  pub same : IsSamePass w.pass z.pass
  pub past : HasSeenAllOf z.pass w.pass
  pub did : AddsLooks (most_looks (reach L) (length old)) w.pass.view.log z.pass.view.log
  pub gave : IfErr r
      (λ e. (e ≡ fault.Busy) × GiveUpInTurns L (map key_of old) w.pass.view.log z.pass.view.log)
  pub keys : map key_of new ≡ map key_of old
  pub moment : IfOk r (λ u. All (λ q. MapGaveUnderPin w.pass z.pass q.key (answer_of q)) new)
  pub won : HasWon w.pass.view.log z.pass.view.log 0 0
  pub place : KeepsPlace w z
  pub queues : z.queues ≡ w.queues
  pub fit : z.fit ≡ w.fit

-- `LeavesHasMany`: the same for a look-up of several queries, from the old ones to the new ones. A
-- call that has a try is not busy if no other worker makes a transition during it (`alone`)
pub record LeavesHasMany (L : Layout) (tries : ℕ) (old new : List Query) (w z : WorkerView)
    (r : Result (Unit {0}) CallFault) : Type 0 where
  pub same : IsSamePass w.pass z.pass
  pub past : HasSeenAllOf z.pass w.pass
  pub did : HasAnsweredMany L tries old w z r
  pub interfered : IsErrOf r fault.Busy → ManyWereBusy w.pass z.pass tries
  pub alone : IsAlone w.pass z.pass → IsErrOf r fault.Busy → tries ≡ 0
  pub keys : map key_of new ≡ map key_of old
  pub moment : IfOk r (λ u. All (λ q. WasSo w.pass z.pass q.key q.found) new)
  pub won : HasWon w.pass.view.log z.pass.view.log 0 0
  pub steps : length z.pass.view.log
      ≤ length w.pass.view.log + 3 * tries + most_looks (reach L) (length old) + 2
  pub queues : z.queues ≡ w.queues
  pub held : z.held ≡ None
  pub fit : z.fit ≡ w.fit

-- `LeavesNear`: the same for a call for the key nearest to a given one. `Was` is what its answer
-- says of the set, and `GivesUp` is how its walks end without an answer. A call that has two tries
-- is not busy if no other worker makes a transition during it (`alone`). `LeavesNearest`: on that
-- side of k. `LeavesNext`, `LeavesPrev`: for the least key that is not below k, and for the greatest
-- key that is not above k
pub record LeavesNear (Was : PassView → PassView → Option ℕ → Type 0)
    (GivesUp : List LogEntry → List LogEntry → Type 0) (L : Layout) (tries : ℕ) (w z : WorkerView)
    (r : Result (Option ℕ) CallFault) : Type 0 where
  pub same : IsSamePass w.pass z.pass
  pub past : HasSeenAllOf z.pass w.pass
  pub did : HasSeenMore GivesUp tries (tries * most_looks (reach L) 1) w z r
  pub interfered : IsErrOf r fault.Busy → NearWasBusy w.pass z.pass tries
  pub alone : IsAlone w.pass z.pass → IsErrOf r fault.Busy → tries ≤ 1
  pub moment : IfOk r (Was w.pass z.pass)
  pub won : HasWon w.pass.view.log z.pass.view.log 0 0
  pub steps : length z.pass.view.log
      ≤ length w.pass.view.log + 3 * tries + tries * most_looks (reach L) 1 + 2
  pub queues : z.queues ≡ w.queues
  pub held : z.held ≡ None
  pub fit : z.fit ≡ w.fit

abbrev pub LeavesNearest : Side → Layout → ℕ → ℕ → WorkerView → WorkerView → Result (Option ℕ) CallFault → Type 0
LeavesNearest side L tries k = LeavesNear (λ p q. WasNear side p q k) (GiveUp side L tries k) L tries

abbrev pub LeavesNext : Layout → ℕ → ℕ → WorkerView → WorkerView → Result (Option ℕ) CallFault → Type 0
LeavesNext L tries k = LeavesNear (λ p q. WasNear Right p q k) (GiveUp Right L tries k) L tries

abbrev pub LeavesPrev : Layout → ℕ → ℕ → WorkerView → WorkerView → Result (Option ℕ) CallFault → Type 0
LeavesPrev L tries k = LeavesNear (λ p q. WasNear Left p q k) (GiveUp Left L tries k) L tries

-- `LeavesPin`, `LeavesUnpin`, `LeavesAdvance`, `LeavesBehind`, `LeavesCollect`: the same for a call
-- that pins or unpins, advances or reads the epoch, or collects
pub record LeavesPin (tries : ℕ) (w z : WorkerView) (r : Result ℕ PinFault) : Type 0 where
  pub same : IsSamePass w.pass z.pass
  pub past : HasSeenAllOf z.pass w.pass
  pub did : HasPinned tries w z r
  pub queues : z.queues ≡ w.queues
  pub steps : length z.pass.view.log ≤ length w.pass.view.log + (3 * tries + 1)
  pub fit : z.fit ≡ w.fit

pub record LeavesUnpin (w z : WorkerView) : Type 0 where
  pub step : Stepped w.pass z.pass Leave Departed
  pub past : HasSeenAllOf z.pass w.pass
  pub queues : z.queues ≡ w.queues
  pub pending : z.pending ≡ None
  pub held : z.held ≡ None
  pub fit : z.fit ≡ w.fit

pub record LeavesAdvance (workers : ℕ) (w z : WorkerView) (a : Advance) : Type 0 where
  pub same : IsSamePass w.pass z.pass
  pub past : HasSeenAllOf z.pass w.pass
  pub did : IsAdvance workers w.pass.view.number (epochs w.pass).pin w.pass.view.log z.pass.view.log
      a
  pub place : KeepsPlace w z
  pub queues : z.queues ≡ w.queues
  pub steps : length z.pass.view.log ≤ length w.pass.view.log + workers + 1
  pub fit : z.fit ≡ w.fit

pub record LeavesBehind (workers : ℕ) (w z : WorkerView) (b : Behind) : Type 0 where
  pub same : IsSamePass w.pass z.pass
  pub past : HasSeenAllOf z.pass w.pass
  pub did : IsBehind workers w.pass.view.number (epochs w.pass).pin w.pass.view.log z.pass.view.log
      b
  pub place : KeepsPlace w z
  pub queues : z.queues ≡ w.queues
  pub steps : length z.pass.view.log ≤ length w.pass.view.log + workers
  pub fit : z.fit ≡ w.fit

pub record LeavesCollect (nodes : ℕ) (w z : WorkerView) (c : Collected) : Type 0 where
  pub same : IsSamePass w.pass z.pass
  pub past : HasSeenAllOf z.pass w.pass
  pub did : IsCollection c.epoch w.queues w.pass.view.log z.pass.view.log
  pub freed : c.freed ≡ length (ripe_of c.epoch w.queues)
  pub lost : HaveLost c.epoch w.queues z.queues
  pub grace : All (λ (e : Entry). IsFreedInGrace z.pass.view e.node) (ripe_of c.epoch w.queues)
  pub blocks : AreTrimmed w.queues z.queues
  pub newest : (epoch : ℕ) → HasRead w.pass.view.log epoch → epoch ≤ c.epoch
  pub place : KeepsPlace w z
  pub steps : length z.pass.view.log ≤ length w.pass.view.log + nodes
  pub fit : z.fit ≡ w.fit
