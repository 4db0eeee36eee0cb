-- Pops of the least and of the greatest key, of all keys or of those up to a bound, in a set that
-- others change.
use Rattle.std.specs.Prelude.{◌≡◌, ◌⊎◌, ◌+◌, ◌-◌, ◌*◌, ◌^◌, ◌≤◌, ◌<◌, ℕ, zero, suc, true, false, length, Option, Some, None, Result, Ok, Err, IfOk, IfErr}
use Rattle.nm_edge.specs.Keys.{IsKey}
use Rattle.nm_edge.specs.Layouts.{Layout}
use Rattle.nm_model.specs.declared.event.Op.TheVariants.{Delete}
use Rattle.nm_steps.specs.Steps.{PassView, IsSamePass, HasSeenAllOf}
use Rattle.nm_walks.specs.Bounds.{chain_bound, reach}
use Rattle.nm_calls.specs.Moments.{AnswerHasMoment}
use Rattle.nm_calls.specs.PlainWalks.{WasSo}
use Rattle.nm_calls.specs.Won.{HasWon}
use Rattle.nm_calls.specs.declared.deleting.Unfinished.{Unfinished}
use Rattle.nm_calls.specs.declared.fault.CallFault.{CallFault}
use Rattle.nm_calls.specs.declared.fault.CallFault.TheVariants as fault
use Rattle.nm_progress.specs.Alone.{RunsAlone}
use Rattle.nm_tree.specs.declared.popping.End.{End}
use Rattle.nm_tree.specs.declared.popping.End.TheVariants.{First, FirstBelow, Last, LastFrom}
use Rattle.nm_tree.specs.Answers.{IsPendingStill, IsFree, LacksRoom, FailsAlone}
use Rattle.nm_tree.specs.Calls.{LeavesNext, LeavesPrev, LeavesDelete}
use Rattle.nm_tree.specs.Workers.{WorkerView, KeepsOtherQueues, TakeRoom}

-- ---- what the answer says of keys

-- the order in which keys are popped: the least first, or the greatest first
abbrev pub comes_before : End → ℕ → ℕ → Type 0
comes_before First j key = j < key
comes_before (FirstBelow below) j key = j < key
comes_before Last j key = key < j
comes_before (LastFrom from) j key = key < j

-- the keys of which one is popped: all, or those below a bound, or those from a bound on
abbrev pub among : End → ℕ → Type 0
among First j = IsKey j
among (FirstBelow below) j = IsKey j × (j < below)
among Last j = IsKey j
among (LastFrom from) j = IsKey j × (from ≤ j)

-- the key is none of these
abbrev pub IsOutside : End → ℕ → Type 0
IsOutside First key = ⊥
IsOutside (FirstBelow below) key = below ≤ key
IsOutside Last key = ⊥
IsOutside (LastFrom from) key = key < from

-- each key before this one was absent, at a moment (linearization point) of its own
abbrev pub WereMissing : (ℕ → ℕ → Type 0) → PassView → PassView → ℕ → Type 0
WereMissing Before p q key = (j : ℕ) → IsKey j → Before j key → WasSo p q j false

-- if a key was popped, it is one of these keys and was deleted at a moment (linearization point) of
-- the call, and each key before it was absent at a moment of its own; otherwise each of these keys
-- was absent at a moment of its own
abbrev pub TakesOf : (ℕ → Type 0) → (ℕ → ℕ → Type 0) → PassView → PassView → Option ℕ → Type 0
TakesOf Among Before p q (Some key) =
    Among key × AnswerHasMoment p q Delete key true × WereMissing Before p q key
TakesOf Among Before p q None = (j : ℕ) → Among j → WasSo p q j false

-- the same of all keys
abbrev pub Takes : (ℕ → ℕ → Type 0) → PassView → PassView → Option ℕ → Type 0
Takes = TakesOf IsKey

-- ---- what the answer says of the worker

-- a pop, by its answer, like a delete; after `Unfinished` one of these keys is pending that was in
-- the set at a moment of the call, and each key before it was absent at a moment of its own
abbrev pub PopTold : (ℕ → Type 0) → (ℕ → ℕ → Type 0) → WorkerView → WorkerView → Result (Option ℕ) CallFault → Type 0
PopTold Among Before w z (Ok taken) = IsFree w z
PopTold Among Before w z (Err fault.Busy) = IsFree w z
PopTold Among Before w z (Err fault.NoMemory) = IsFree w z × LacksRoom z
PopTold Among Before w z (Err fault.Unfinished) =
    (w.pending ≡ None) × (n : Unfinished) × (z.pending ≡ Some n) × Among n.key
    × WasSo w.pass z.pass n.key true × WereMissing Before w.pass z.pass n.key
PopTold Among Before w z (Err fault.Pending) = IsPendingStill w z
PopTold Among Before w z (Err fault.Full) = ⊥
PopTold Among Before w z (Err fault.Pinned) = ⊥

-- the flags that a pop has won, by its answer: one if it returned a key or `Unfinished`
abbrev pub flags_popped : Result (Option ℕ) CallFault → ℕ
flags_popped (Ok (Some key)) = 1
flags_popped (Ok None) = 0
flags_popped (Err fault.Unfinished) = 1
flags_popped (Err _) = 0

-- the most steps that a pop makes: in each round those of a call that finds a key, and those of a
-- delete
abbrev pub pop_bound : Layout → ℕ → ℕ
pop_bound L tries = tries * (tries * (7 * reach L + 8 * chain_bound + 4) + 12)

-- what a caller learns from a pop of one of these keys, by its answer: like `SaysDelete` for a
-- delete. If the worker ran alone, an error is due to fewer than two tries, or to a lack of room
-- (`alone`)
pub record SaysPopOf (Among : ℕ → Type 0) (Before : ℕ → ℕ → Type 0) (L : Layout) (tries : ℕ)
    (w z : WorkerView) (r : Result (Option ℕ) CallFault) : Type 0 where
  pub same : IsSamePass w.pass z.pass
  pub past : HasSeenAllOf z.pass w.pass
  pub told : PopTold Among Before w z r
  pub took : IfOk r (TakesOf Among Before w.pass z.pass)
  pub won : HasWon w.pass.view.log z.pass.view.log 0 (flags_popped r)
  pub steps : length z.pass.view.log ≤ length w.pass.view.log + pop_bound L tries
  pub queues : KeepsOtherQueues w.pass.view.number w.queues z.queues
  pub blocks : TakeRoom w.queues z.queues
  pub held : z.held ≡ None
  pub fit : z.fit ≡ w.fit
  pub alone : RunsAlone w.pass z.pass → IfErr r (FailsAlone 2 2 tries z)

-- the same of all keys
abbrev pub SaysPop : (ℕ → ℕ → Type 0) → Layout → ℕ → WorkerView → WorkerView
    → Result (Option ℕ) CallFault → Type 0
SaysPop = SaysPopOf IsKey

-- ---- how it is done

-- the call that finds the key to be popped
abbrev pub Finds : End → Layout → ℕ → WorkerView → WorkerView → Result (Option ℕ) CallFault → Type 0
Finds First L tries = LeavesNext L tries 0
Finds (FirstBelow below) L tries = LeavesNext L tries 0
Finds Last L tries = LeavesPrev L tries (2 ^ 64 - 4)
Finds (LastFrom from) L tries = LeavesPrev L tries (2 ^ 64 - 4)

-- n rounds in a row came too late: the key that was found was not there to be deleted
abbrev pub LosesRounds : End → Layout → ℕ → ℕ → WorkerView → WorkerView → Type 0
LosesRounds end L tries zero w z = z ≡ w
LosesRounds end L tries (suc n) w z =
    (x y : WorkerView) × (key : ℕ) × LosesRounds end L tries n w x
    × Finds end L tries x y (Ok (Some key)) × LeavesDelete L tries key y z (Ok false)

-- the last round: no key was found, or one that is not to be popped; or a key was found and deleted;
-- or one of the two calls gave up
abbrev pub EndsRound : End → Layout → ℕ → WorkerView → WorkerView → Result (Option ℕ) CallFault → Type 0
EndsRound end L tries w z (Ok None) = Finds end L tries w z (Ok None)
    ⊎ ((key : ℕ) × Finds end L tries w z (Ok (Some key)) × IsOutside end key)
EndsRound end L tries w z (Ok (Some key)) = (y : WorkerView)
    × Finds end L tries w y (Ok (Some key)) × among end key × LeavesDelete L tries key y z (Ok true)
EndsRound end L tries w z (Err f) = Finds end L tries w z (Err f)
    ⊎ ((y : WorkerView) × (key : ℕ) × Finds end L tries w y (Ok (Some key)) × among end key
    × LeavesDelete L tries key y z (Err f))

-- fewer than `tries` rounds came too late, and then there was the last one; or `tries` rounds came
-- too late
abbrev pub GoesInRounds : End → Layout → ℕ → WorkerView → WorkerView → Result (Option ℕ) CallFault → Type 0
GoesInRounds end L tries w z r =
    ((n : ℕ) × (x : WorkerView) × (n < tries) × LosesRounds end L tries n w x
    × EndsRound end L tries x z r)
    ⊎ (LosesRounds end L tries tries w z × (r ≡ Err fault.Busy))

-- a key was pending, and nothing has changed; or none was, and there were such rounds
abbrev pub HasPopped : End → Layout → ℕ → WorkerView → WorkerView → Result (Option ℕ) CallFault → Type 0
HasPopped end L tries w z r = (IsPendingStill w z × (r ≡ Err fault.Pending))
    ⊎ ((w.pending ≡ None) × GoesInRounds end L tries w z r)

-- `LeavesPop`: what a caller learns from a pop, and how it was done; `LeavesPopFirst`,
-- `LeavesPopLast`: for the least key, and for the greatest; `LeavesPopFirstBelow`,
-- `LeavesPopLastFrom`: for the least key below a bound, and for the greatest from a bound on
pub record LeavesPop (end : End) (L : Layout) (tries : ℕ) (w z : WorkerView)
    (r : Result (Option ℕ) CallFault) : Type 0 where
  pub says : SaysPopOf (among end) (comes_before end) L tries w z r
  pub did : HasPopped end L tries w z r

abbrev pub LeavesPopFirst : Layout → ℕ → WorkerView → WorkerView → Result (Option ℕ) CallFault → Type 0
LeavesPopFirst = LeavesPop First

abbrev pub LeavesPopLast : Layout → ℕ → WorkerView → WorkerView → Result (Option ℕ) CallFault → Type 0
LeavesPopLast = LeavesPop Last

abbrev pub LeavesPopFirstBelow : ℕ → Layout → ℕ → WorkerView → WorkerView → Result (Option ℕ) CallFault → Type 0
LeavesPopFirstBelow below = LeavesPop (FirstBelow below)

abbrev pub LeavesPopLastFrom : ℕ → Layout → ℕ → WorkerView → WorkerView → Result (Option ℕ) CallFault → Type 0
LeavesPopLastFrom from = LeavesPop (LastFrom from)
