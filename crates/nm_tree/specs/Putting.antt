-- A put: what it leaves of its worker, and what a caller learns from it.
use Rattle.std.specs.Prelude.{◌≡◌, ◌⊎◌, ℕ, None, Result, Err, IfErr, IsErrOf}
use Rattle.nm_edge.specs.Layouts.{Layout}
use Rattle.nm_model.specs.declared.event.Op.TheVariants.{Insert}
use Rattle.nm_steps.specs.Rules.{ExtendsStores}
use Rattle.nm_steps.specs.Steps.{IsSamePass, HasSeenAllOf}
use Rattle.nm_calls.specs.Moments.{AnswerHasMoment}
use Rattle.nm_calls.specs.Won.{HasWon}
use Rattle.nm_calls.specs.declared.fault.CallFault.{CallFault}
use Rattle.nm_calls.specs.declared.fault.CallFault.TheVariants as fault
use Rattle.nm_puts.specs.declared.putting.Condition.{Condition}
use Rattle.nm_puts.specs.declared.putting.PutOutcome.{PutOutcome}
use Rattle.nm_puts.specs.Puts.{Did, IfAnswered, IfDone, IsWithinPuts, PutDid, links_of}
use Rattle.nm_progress.specs.Alone.{RunsAlone}
use Rattle.nm_progress.specs.Lost.{ChangeWasBusy}
use Rattle.nm_tree.specs.Answers.{FailsAlone, FreesNone, InsertTold, IsFree, IsPendingStill}
use Rattle.nm_tree.specs.Workers.{WorkerView, KeepsOtherQueues, TakeRoom}

-- `SaysPut`: what a caller learns from a put, by its result, as from an insert (`SaysInsert`). `map` is
-- what the put found and did in the map; what it found was so at a moment (linearization point) of the
-- call. If it leaves with an answer, this is that of an insert of the key (`moment`). The worker has
-- seen all stores that it had seen (`stores`), and has freed no node (`frees`)
pub record SaysPut (L : Layout) (tries : ℕ) (when : Condition) (k v : ℕ) (w z : WorkerView)
    (r : Result PutOutcome CallFault) : Type 0 where
  pub same : IsSamePass w.pass z.pass
  pub past : HasSeenAllOf z.pass w.pass
  pub stores : ExtendsStores z.pass.view.stores w.pass.view.stores
  pub told : InsertTold w z r
  pub map : IfDone r (Did when k v w.pass z.pass)
  pub moment : IfDone r (λ put. IfAnswered put (λ answer. AnswerHasMoment w.pass z.pass Insert k answer))
  pub won : HasWon w.pass.view.log z.pass.view.log (links_of r) 0
  pub steps : IsWithinPuts L tries w.pass.view.log z.pass.view.log
  pub frees : FreesNone w z
  pub queues : KeepsOtherQueues w.pass.view.number w.queues z.queues
  pub blocks : TakeRoom w.queues z.queues
  pub held : z.held ≡ None
  pub fit : z.fit ≡ w.fit

-- `LeavesPut`: the same, and how the call was done (`did`): a key was pending, and nothing has changed,
-- or none was; and why it was busy (`interfered`), and why it failed if it ran alone (`alone`)
pub record LeavesPut (L : Layout) (tries : ℕ) (when : Condition) (k v : ℕ) (w z : WorkerView)
    (r : Result PutOutcome CallFault) : Type 0 where
  pub says : SaysPut L tries when k v w z r
  pub did : (IsPendingStill w z × (r ≡ Err fault.Pending))
      ⊎ (IsFree w z × PutDid w.fit L tries when k w.pass.view.log z.pass.view.log r)
  pub interfered : IsErrOf r fault.Busy → ChangeWasBusy w.pass z.pass tries
  pub alone : RunsAlone w.pass z.pass → IfErr r (FailsAlone 1 1 tries z)
