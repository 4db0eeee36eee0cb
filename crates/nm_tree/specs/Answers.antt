-- What each call of the set changes in its worker, for each answer.
use Rattle.std.specs.Prelude.{◌≡◌, ◌⊎◌, ◌<◌, ◌≤◌, ℕ, ◌-◌, Bool, true, false, List, [], ◌∷◌, ◌++◌, Some, None, IsSome, Result, Ok, Err, Contains}
use Rattle.nm_edge.specs.Layouts.{Layout}
use Rattle.nm_edge.specs.declared.node.NodeId.{NodeId}
use Rattle.nm_calls.specs.Calls.{HasDid, HasMissed}
use Rattle.nm_calls.specs.Deletes.{DeleteDid, FinishDid, LosesEachTry, LosesAfterFlag}
use Rattle.nm_calls.specs.Inserts.{InsertDid}
use Rattle.nm_calls.specs.Moments.{AnswerHasMoment, HadNoCall}
use Rattle.nm_calls.specs.Won.{links_of_insert, flags_of_delete}
use Rattle.nm_epoch.specs.Tries.{IsPinnedBy as PinsSo, IsMoved}
use Rattle.nm_model.specs.declared.event.Event.{Event}
use Rattle.nm_model.specs.declared.event.Event.TheVariants.{Claim, Give, Look, Sight}
use Rattle.nm_model.specs.declared.event.Field.TheVariants.{Birth}
use Rattle.nm_model.specs.declared.event.Op.TheVariants.{Delete}
use Rattle.nm_model.specs.declared.reply.Reply.{Reply}
use Rattle.nm_model.specs.declared.reply.Reply.TheVariants.{BirthIs, Freed, Taken}
use Rattle.nm_model.specs.declared.trace.Turn.{Turn}
use Rattle.nm_model.specs.Step.{last_number}
use Rattle.nm_model.specs.Walks.{Entry}
use Rattle.nm_progress.specs.Lost.{Interference, WasChanged}
use Rattle.nm_tree.specs.declared.fault.PinFault.{PinFault}
use Rattle.nm_tree.specs.declared.fault.PinFault.TheVariants as pinning
use Rattle.nm_calls.specs.declared.deleting.Deletion.TheVariants as deletion
use Rattle.nm_calls.specs.declared.fault.CallFault.{CallFault}
use Rattle.nm_calls.specs.declared.fault.CallFault.TheVariants as fault
use Rattle.nm_calls.specs.declared.deleting.Unfinished.{Unfinished}
use Rattle.nm_tree.specs.Workers.{WorkerView, HasLittleRoom}
use Rattle.nm_epoch.specs.Resting.{epochs}
use Rattle.nm_steps.specs.Steps.{PassView}

-- a key is pending, and nothing has changed
abbrev pub IsPendingStill : WorkerView → WorkerView → Type 0
IsPendingStill w z = IsSome w.pending × (z ≡ w)

-- no key was pending before, and none is after
abbrev pub IsFree : WorkerView → WorkerView → Type 0
IsFree w z = (w.pending ≡ None) × (z.pending ≡ None)

-- the worker's own queue has less room than a try needs
abbrev pub LacksRoom : WorkerView → Type 0
LacksRoom z = HasLittleRoom z.pass.view.number z.queues

-- among these turns worker w has made this event, with this reply
abbrev pub HasMade : ℕ → List Turn → Event → Reply → Type 0
HasMade w turns e r = Contains turns (record { worker = w; event = e; outcome = Ok r })

-- among these turns worker w has tried each slot above 5 and got none to keep: a claim found it taken,
-- or the last birth in it was used. An insert needs two, and may have claimed one of them itself
abbrev pub FindsNoSlot : ℕ → ℕ → List Turn → Type 0
FindsNoSlot nodes w turns = (s : ℕ) → 6 ≤ s → s ≤ nodes
    → HasMade w turns (Claim s) Taken ⊎ HasMade w turns (Look s Birth) (BirthIs last_number)

-- so it was between p and q
abbrev pub FoundNoSlot : PassView → PassView → Type 0
FoundNoSlot p q = (turns : List Turn) × (q.view.past ≡ p.view.past ++ turns)
    × FindsNoSlot q.view.layout.nodes q.view.number turns

-- `freed_of_entry`, `freed_in`: the nodes that a worker has freed, by one entry of its log, and by all
abbrev pub freed_of_entry : Entry → List NodeId
freed_of_entry (Give slot, Freed n) = n ∷ []
freed_of_entry _ = []

abbrev pub freed_in : List Entry → List NodeId
freed_in [] = []
freed_in (e ∷ es) = freed_of_entry e ++ freed_in es

-- the worker has freed no node
abbrev pub FreesNone : WorkerView → WorkerView → Type 0
FreesNone w z = freed_in z.pass.view.log ≡ freed_in w.pass.view.log

-- a look-up, by its answer: either a key was pending and nothing has changed, or no key was pending
-- before or after
abbrev pub HasTold : WorkerView → WorkerView → Result Bool CallFault → Type 0
HasTold w z (Ok b) = IsFree w z
HasTold w z (Err fault.Busy) = IsFree w z
HasTold w z (Err fault.Pending) = IsPendingStill w z
HasTold w z (Err _) = ⊥

-- an insert or a put, in the same way; after `Full` it has found no slot, and after `NoMemory` its own
-- queue has little room
abbrev pub InsertTold : {A : Type 0} → WorkerView → WorkerView → Result A CallFault → Type 0
InsertTold w z (Ok a) = IsFree w z
InsertTold w z (Err fault.Busy) = IsFree w z
InsertTold w z (Err fault.Full) = IsFree w z × FoundNoSlot w.pass z.pass
InsertTold w z (Err fault.NoMemory) = IsFree w z × LacksRoom z
InsertTold w z (Err fault.Pending) = IsPendingStill w z
InsertTold w z (Err fault.Unfinished) = ⊥
InsertTold w z (Err fault.Pinned) = ⊥

-- a delete of key k, in the same way; after `Unfinished` the key is pending, with the leaf that the
-- worker has flagged
abbrev pub DeleteTold : ℕ → WorkerView → WorkerView → Result Bool CallFault → Type 0
DeleteTold k w z (Ok b) = IsFree w z
DeleteTold k w z (Err fault.Busy) = IsFree w z
DeleteTold k w z (Err fault.NoMemory) = IsFree w z × LacksRoom z
DeleteTold k w z (Err fault.Unfinished) =
    (w.pending ≡ None) × (leaf : NodeId) × (z.pending ≡ Some (record { key = k; leaf = leaf }))
DeleteTold k w z (Err fault.Pending) = IsPendingStill w z
DeleteTold k w z (Err fault.Full) = ⊥
DeleteTold k w z (Err fault.Pinned) = ⊥

-- a call that goes on with a delete: nothing was pending, and nothing has changed; or a key was
-- pending, and none is now; or it is still pending
abbrev pub FinishTold : WorkerView → WorkerView → Result Bool CallFault → Type 0
FinishTold w z (Ok false) = (w.pending ≡ None) × (z ≡ w)
FinishTold w z (Ok true) = IsSome w.pending × (z.pending ≡ None)
FinishTold w z (Err fault.Unfinished) = IsSome w.pending × (z.pending ≡ w.pending)
FinishTold w z (Err _) = ⊥

-- what a look-up leaves of its worker and its log, by its answer (Natarajan and Mittal, section
-- 3.2)
abbrev pub HasAnswered : Layout → ℕ → ℕ → WorkerView → WorkerView → Result Bool CallFault → Type 0
HasAnswered L tries k w z (Ok b) =
    IsFree w z × HasDid L tries k w.pass.view.log z.pass.view.log b
HasAnswered L tries k w z (Err fault.Busy) =
    IsFree w z × HasMissed L tries k w.pass.view.log z.pass.view.log
HasAnswered L tries k w z (Err fault.Pending) = IsPendingStill w z
HasAnswered L tries k w z (Err _) = ⊥

-- what an insert leaves of its worker and its log, by its answer (Natarajan and Mittal, section
-- 3.2)
abbrev pub HasInserted : Layout → ℕ → ℕ → WorkerView → WorkerView → Result Bool CallFault → Type 0
HasInserted L tries k w z (Ok b) =
    IsFree w z × InsertDid w.fit L tries k w.pass.view.log z.pass.view.log (Ok b)
HasInserted L tries k w z (Err fault.Busy) =
    IsFree w z × InsertDid w.fit L tries k w.pass.view.log z.pass.view.log (Err fault.Busy)
HasInserted L tries k w z (Err fault.Full) =
    IsFree w z × InsertDid w.fit L tries k w.pass.view.log z.pass.view.log (Err fault.Full)
HasInserted L tries k w z (Err fault.NoMemory) =
    IsFree w z × InsertDid w.fit L tries k w.pass.view.log z.pass.view.log (Err fault.NoMemory)
HasInserted L tries k w z (Err fault.Pending) = IsPendingStill w z
HasInserted L tries k w z (Err fault.Unfinished) = ⊥
HasInserted L tries k w z (Err fault.Pinned) = ⊥

-- what a delete leaves of its worker and its log, by its answer (Natarajan and Mittal, section 3.2)
abbrev pub HasDeleted : Layout → ℕ → ℕ → WorkerView → WorkerView → Result Bool CallFault → Type 0
HasDeleted L tries k w z (Ok b) =
    IsFree w z × DeleteDid L tries k w.pass.view.log z.pass.view.log (Ok (deletion.Done b))
HasDeleted L tries k w z (Err fault.Busy) =
    IsFree w z × DeleteDid L tries k w.pass.view.log z.pass.view.log (Err fault.Busy)
HasDeleted L tries k w z (Err fault.NoMemory) =
    IsFree w z × DeleteDid L tries k w.pass.view.log z.pass.view.log (Err fault.NoMemory)
HasDeleted L tries k w z (Err fault.Unfinished) =
    (w.pending ≡ None) × (leaf : NodeId) × (z.pending ≡ Some (record { key = k; leaf = leaf }))
    × DeleteDid L tries k w.pass.view.log z.pass.view.log (Ok (deletion.Pending leaf))
HasDeleted L tries k w z (Err fault.Pending) = IsPendingStill w z
HasDeleted L tries k w z (Err fault.Full) = ⊥
HasDeleted L tries k w z (Err fault.Pinned) = ⊥

-- what a call that goes on with a delete leaves of its worker and its log, by its answer (Natarajan
-- and Mittal, section 3.2)
abbrev pub HasFinished : Layout → ℕ → WorkerView → WorkerView → Result Bool CallFault → Type 0
HasFinished L tries w z (Ok false) = (w.pending ≡ None) × (z ≡ w)
HasFinished L tries w z (Ok true) =
    (n : Unfinished) × (w.pending ≡ Some n) × (z.pending ≡ None)
    × FinishDid L n.key n.leaf tries w.pass.view.log z.pass.view.log true
HasFinished L tries w z (Err fault.Unfinished) =
    (n : Unfinished) × (w.pending ≡ Some n) × (z.pending ≡ Some n)
    × FinishDid L n.key n.leaf tries w.pass.view.log z.pass.view.log false
HasFinished L tries w z (Err _) = ⊥

-- ---- what a call has won, by its answer

-- the links that a call of a tree has won, by its answer: one if an insert returned true
abbrev pub links_won : Result Bool CallFault → ℕ
links_won (Ok answer) = links_of_insert (Ok answer)
links_won (Err fault) = 0

-- the flags that a call of a tree has won, by its answer: one if a delete returned true or
-- `Unfinished`
abbrev pub flags_won : Result Bool CallFault → ℕ
flags_won (Ok answer) = flags_of_delete (Ok (deletion.Done answer))
flags_won (Err fault.Unfinished) = 1
flags_won (Err _) = 0

-- ---- why a call gave up

-- why a delete gave up: after `NoMemory` it lacks room; after `Unfinished` it lacks room, or it
-- lost each try after its flag
abbrev pub DeleteLacks : Layout → ℕ → ℕ → WorkerView → WorkerView → CallFault → Type 0
DeleteLacks L tries k w z fault.NoMemory = LacksRoom z
DeleteLacks L tries k w z fault.Unfinished =
    LacksRoom z ⊎ ((leaf : NodeId)
    × LosesAfterFlag L tries k w.pass.view.log z.pass.view.log leaf)
DeleteLacks L tries k w z _ = Unit {0}

-- why a call that goes on with a delete gave up: it lacks room, or it lost each try
abbrev pub FinishLacks : Layout → ℕ → WorkerView → WorkerView → CallFault → Type 0
FinishLacks L tries w z _ =
    LacksRoom z ⊎ ((n : Unfinished) × (w.pending ≡ Some n)
    × LosesEachTry L n.key n.leaf tries w.pass.view.log z.pass.view.log)

-- `DeleteWasLost`, `FinishWasLost`: room was lacking, or the worker met interference at least as
-- often as the call had tries; of an unfinished delete, the try that won the flag is not counted. A
-- call that goes on with a delete meets interference by other workers alone
abbrev pub DeleteWasLost : ℕ → WorkerView → WorkerView → Type 0
DeleteWasLost tries w z = LacksRoom z ⊎ Interference w.pass z.pass (tries - 1)

abbrev pub FinishWasLost : ℕ → WorkerView → WorkerView → Type 0
FinishWasLost tries w z = LacksRoom z ⊎ WasChanged w.pass z.pass tries

-- why a call with this number of tries failed although it ran alone: it was `Busy` with fewer tries
-- than `first`; or a delete is not finished, because there were fewer than `all`, or because the
-- worker's own queue lacks room; or the pool had no slot; or that queue lacks room; or a key is
-- pending; or the caller has pinned the worker (obstruction freedom: Herlihy, Luchangco and Moir)
abbrev pub FailsAlone : ℕ → ℕ → ℕ → WorkerView → CallFault → Type 0
FailsAlone first all tries z fault.Busy = tries < first
FailsAlone first all tries z fault.Unfinished = (tries < all) ⊎ LacksRoom z
FailsAlone first all tries z fault.Full =
    FindsNoSlot z.pass.view.layout.nodes z.pass.view.number z.pass.view.past
FailsAlone first all tries z fault.NoMemory = LacksRoom z
FailsAlone first all tries z fault.Pending = IsSome z.pending
FailsAlone first all tries z fault.Pinned = IsSome z.held

-- if the call has finished the pending delete, the answer true has a moment (linearization point).
-- It is later than all that the worker had seen at any time when it had no call, as before the call
-- that began the delete (Herlihy and Wing)
abbrev pub FinishHasMoment : WorkerView → WorkerView → Result Bool CallFault → Type 0
FinishHasMoment w z (Ok true) =
    (n : Unfinished) × (w.pending ≡ Some n)
    × ((o : PassView) → HadNoCall o w.pass → AnswerHasMoment o z.pass Delete n.key true)
FinishHasMoment w z _ = Unit {0}

-- what a pin for the caller leaves of its worker, by its answer (Fraser, section 5)
abbrev pub HasPinned : ℕ → WorkerView → WorkerView → Result ℕ PinFault → Type 0
HasPinned tries w z (Ok epoch) =
    IsFree w z × (z.held ≡ Some epoch) × PinsSo Sight tries w.pass.view.log z.pass.view.log epoch
HasPinned tries w z (Err (pinning.Moved epoch)) =
    IsFree w z × (z.held ≡ None) × ((epochs z.pass).seen ≡ Some epoch)
    × IsMoved Sight tries w.pass.view.log z.pass.view.log
HasPinned tries w z (Err pinning.Pending) = IsPendingStill w z
HasPinned tries w z (Err pinning.Pinned) = ⊥

-- the property holds if the call has flagged its leaf
abbrev pub IfTaken : Result Bool CallFault → Type 0 → Type 0
IfTaken (Ok true) P = P
IfTaken (Err fault.Unfinished) P = P
IfTaken _ P = Unit {0}

-- what is pending, and the caller's pin, are unchanged
abbrev pub KeepsPlace : WorkerView → WorkerView → Type 0
KeepsPlace w z = (z.pending ≡ w.pending) × (z.held ≡ w.held)
