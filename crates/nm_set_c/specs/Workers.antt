-- What calls on a worker return and leave: m is the worker before the call, n the worker after it,
-- and o the outcome.
use Rattle.std.specs.Prelude.{◌≡◌, ◌⊎◌, ℕ, Bool, option_map, Option, Some, None, Result, Ok, Err}
use Rattle.nm_edge.specs.Keys.{IsKey}
use Rattle.nm_model.specs.declared.event.Op.TheVariants.{Has, Insert, Delete}
use Rattle.nm_epoch.specs.declared.answers.Advance.{Advance}
use Rattle.nm_epoch.specs.declared.answers.Advance.TheVariants as advance
use Rattle.nm_calls.specs.declared.fault.CallFault.{CallFault}
use Rattle.nm_tree.specs.declared.fault.PinFault.{PinFault}
use Rattle.nm_tree.specs.declared.fault.PinFault.TheVariants as pinning
use Rattle.nm_tree.specs.declared.worker.Counts.{Counts}
use Rattle.nm_calls.specs.declared.deleting.Unfinished.{Unfinished}
use Rattle.nm_tree.specs.Resigning.{HasResigned}
use Rattle.nm_tree.specs.Workers.{WorkerView, IsLedger}
use Rattle.nm_tree.specs.Calls.{SaysHas, LeavesAdvance, LeavesBehind, LeavesCollect}
use Rattle.nm_set.specs.Asked.{Asked, AskedToPin, AskedToUnpin, SaysTryInsert, SaysTryRemove, SaysGoOn}
use Rattle.nm_set.specs.declared.fault.NotPinned.{NotPinned}
use Rattle.nm_tree.specs.declared.resigning.ResignReason.{ResignReason}
use Rattle.nm_set.specs.declared.managed.Options.{Options}
use Rattle.nm_set.specs.Seats.{MemberView, IsResident, IsStaying}
use Rattle.nm_set.specs.Managed.{SaysManaged}
use Rattle.nm_set_c.specs.Outcomes.{of_answer, of_staying}
use Rattle.nm_set_c.specs.declared.outcome.Outcome.{Outcome}
use Rattle.nm_set_c.specs.declared.outcome.Outcome.TheVariants as outcome
use Rattle.nm_set_c.specs.declared.workers.Stats.{Stats}

-- ---- keys

-- the worker's call is made, and the outcome is that of its answer
pub record TellsAnswer (learnt : WorkerView → WorkerView → Result Bool CallFault → Type 0) (m n : MemberView)
    (o : Outcome) : Type 0 where
  pub answer : Result Bool CallFault
  pub told : o ≡ of_answer answer
  pub tree : n.tree ≡ m.tree
  pub says : learnt m.worker n.worker answer

-- if the number is no key, the outcome is `Key`, and the worker is unchanged
abbrev pub OfKey : ℕ → Type 0 → MemberView → MemberView → Outcome → Type 0
OfKey k says m n o = (IsKey k × says) ⊎ ((IsKey k → ⊥) × (o ≡ outcome.Key) × (n ≡ m))

-- `TellsTryContains`, `TellsTryInsert`, `TellsTryRemove`, `TellsFinish`: what a caller learns from a
-- call of the tree
abbrev pub TellsTryContains : ℕ → ℕ → MemberView → MemberView → Outcome → Type 0
TellsTryContains tries k m n o = OfKey k (TellsAnswer (Asked (SaysHas m.tree.layout tries k)) m n o) m n o

abbrev pub TellsTryInsert : ℕ → ℕ → MemberView → MemberView → Outcome → Type 0
TellsTryInsert tries k m n o = OfKey k (TellsAnswer (SaysTryInsert m.tree.layout tries k) m n o) m n o

abbrev pub TellsTryRemove : ℕ → ℕ → MemberView → MemberView → Outcome → Type 0
TellsTryRemove tries k m n o = OfKey k (TellsAnswer (SaysTryRemove m.tree.layout tries k) m n o) m n o

abbrev pub TellsFinish : ℕ → MemberView → MemberView → Outcome → Type 0
TellsFinish tries m n o = TellsAnswer (SaysGoOn m.tree.layout tries) m n o

-- `TellsContains`, `TellsInsert`, `TellsRemove`: what a caller learns from a managed call
abbrev pub TellsContains : Options → ℕ → MemberView → MemberView → Outcome → Type 0
TellsContains h k m n o = OfKey k (TellsAnswer (SaysManaged Has m.tree h k) m n o) m n o

abbrev pub TellsInsert : Options → ℕ → MemberView → MemberView → Outcome → Type 0
TellsInsert h k m n o = OfKey k (TellsAnswer (SaysManaged Insert m.tree h k) m n o) m n o

abbrev pub TellsRemove : Options → ℕ → MemberView → MemberView → Outcome → Type 0
TellsRemove h k m n o = OfKey k (TellsAnswer (SaysManaged Delete m.tree h k) m n o) m n o

-- ---- epochs

-- `of_pin`, `of_unpin`, `of_advance`: the outcome of such a call, by its answer
abbrev pub of_pin : Result ℕ PinFault → Outcome
of_pin (Ok e) = outcome.Done
of_pin (Err pinning.Pinned) = outcome.Pinned
of_pin (Err (pinning.Moved e)) = outcome.Busy
of_pin (Err pinning.Pending) = outcome.Pending

-- the epoch that is written, or the value that was there before
abbrev pub pin_epoch : Result ℕ PinFault → ℕ → ℕ
pin_epoch (Ok e) old = e
pin_epoch (Err (pinning.Moved e)) old = e
pin_epoch (Err pinning.Pinned) old = old
pin_epoch (Err pinning.Pending) old = old

pub record TellsPin (tries old epoch : ℕ) (m n : MemberView) (o : Outcome) : Type 0 where
  pub answer : Result ℕ PinFault
  pub told : o ≡ of_pin answer
  pub epoch_told : epoch ≡ pin_epoch answer old
  pub tree : n.tree ≡ m.tree
  pub says : AskedToPin tries m.worker n.worker answer

abbrev pub of_unpin : Result (Unit {0}) NotPinned → Outcome
of_unpin (Ok u) = outcome.Done
of_unpin (Err f) = outcome.NotPinned

pub record TellsUnpin (m n : MemberView) (o : Outcome) : Type 0 where
  pub answer : Result (Unit {0}) NotPinned
  pub told : o ≡ of_unpin answer
  pub tree : n.tree ≡ m.tree
  pub says : AskedToUnpin m.worker n.worker answer

abbrev pub of_advance : Advance → Outcome
of_advance (advance.Moved e) = outcome.Done
of_advance (advance.Held w e) = outcome.Behind
of_advance (advance.Lost e) = outcome.Lost
of_advance advance.Spent = outcome.Spent

-- `advance_epoch`, `advance_worker`: the epoch and the worker that an advance writes, or the values
-- that were there before
abbrev pub advance_epoch : Advance → ℕ → ℕ
advance_epoch (advance.Moved e) old = e
advance_epoch (advance.Held w e) old = e
advance_epoch (advance.Lost e) old = e
advance_epoch advance.Spent old = old

abbrev pub advance_worker : Advance → ℕ → ℕ
advance_worker (advance.Moved e) old = old
advance_worker (advance.Held w e) old = w
advance_worker (advance.Lost e) old = old
advance_worker advance.Spent old = old

pub record TellsAdvance (old_epoch epoch old_worker worker : ℕ) (m n : MemberView)
    (o : Outcome) : Type 0 where
  pub answer : Advance
  pub told : o ≡ of_advance answer
  pub epoch_told : epoch ≡ advance_epoch answer old_epoch
  pub worker_told : worker ≡ advance_worker answer old_worker
  pub tree : n.tree ≡ m.tree
  pub says : LeavesAdvance m.tree.layout.workers m.worker n.worker answer

pub record TellsBehind (epoch mask : ℕ) (m n : MemberView) (o : Outcome) : Type 0 where
  pub told : o ≡ outcome.Done
  pub tree : n.tree ≡ m.tree
  pub says : LeavesBehind m.tree.layout.workers m.worker n.worker
      (record { epoch = epoch; mask = mask })

pub record TellsCollect (epoch freed : ℕ) (m n : MemberView) (o : Outcome) : Type 0 where
  pub told : o ≡ outcome.Done
  pub tree : n.tree ≡ m.tree
  pub says : LeavesCollect m.tree.layout.nodes m.worker n.worker
      (record { epoch = epoch; freed = freed })

-- ---- what is read of a worker

-- a number is written, and the outcome is `Done`
pub record TellsNumber (value new : ℕ) (m n : MemberView) (o : Outcome) : Type 0 where
  pub told : o ≡ outcome.Done
  pub value_told : new ≡ value
  pub same : n ≡ m

-- the outcome is `Yes`, and the number is written; or it is `No`, and nothing is written
abbrev pub IsOptionTold : Option ℕ → ℕ → ℕ → Outcome → Type 0
IsOptionTold None old new o = (o ≡ outcome.No) × (new ≡ old)
IsOptionTold (Some k) old new o = (o ≡ outcome.Yes) × (new ≡ k)

-- `TellsOption`, `TellsStats`: what a worker reports of itself is written, and the worker is
-- unchanged
pub record TellsOption (value : Option ℕ) (old new : ℕ) (m n : MemberView) (o : Outcome) : Type 0 where
  pub told : IsOptionTold value old new o
  pub same : n ≡ m

abbrev pub pending_key : WorkerView → Option ℕ
pending_key w = option_map (λ (u : Unfinished). u.key) w.pending

abbrev pub counts_of : Stats → Counts
counts_of l = record {
  links = l.links;
  flags = l.flags;
  splices = l.splices;
  retired = l.retired;
  freed = l.freed;
  queued = l.queued;
}

pub record TellsStats (ledger : Stats) (m n : MemberView) (o : Outcome) : Type 0 where
  pub told : o ≡ outcome.Done
  pub counts : IsLedger m.worker.pass.view m.worker.pass.view.number (counts_of ledger)
  pub same : n ≡ m

-- ---- the end of another worker

-- the worker of that number, which was on its seat, has resigned to this one; or it has not, for
-- the reason in the outcome, and this one is unchanged
abbrev pub TellsResign : ℕ → MemberView → MemberView → Outcome → Type 0
TellsResign leaver m n o =
    ((o ≡ outcome.Done) × (n.tree ≡ m.tree) × (w : WorkerView) × IsResident m.tree m.worker.fit leaver w
    × HasResigned m.worker w n.worker)
    ⊎ ((why : ResignReason) × (o ≡ of_staying why) × IsStaying m leaver why × (n ≡ m))
