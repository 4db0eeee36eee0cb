-- What a look-up leaves in the log, and of its pass.
use Rattle.std.specs.Prelude.{◌≡◌, ◌⊎◌, ◌<◌, ◌==◌, ℕ, zero, suc, Bool, List, [], ◌∷◌, ◌++◌, Result, IfOk, IfErr}
use Rattle.nm_edge.specs.Layouts.{Layout}
use Rattle.nm_model.specs.declared.event.Event.TheVariants.{SightFor, Leave, LeaveWith}
use Rattle.nm_model.specs.declared.event.Op.TheVariants.{Has}
use Rattle.nm_model.specs.declared.reply.Reply.TheVariants.{Departed}
use Rattle.nm_model.specs.Walks.{Entry}
use Rattle.nm_steps.specs.Steps.{PassView, IsSamePass, HasSeenAllOf}
use Rattle.nm_epoch.specs.Resting.{IsResting, KeepsHands}
use Rattle.nm_epoch.specs.Tries.{IsPinnedBy, IsMoved}
use Rattle.nm_calls.specs.declared.fault.CallFault.{CallFault}
use Rattle.nm_calls.specs.declared.fault.CallFault.TheVariants as fault
use Rattle.nm_walks.specs.declared.seek_record.ChainEdge.{ChainEdge}
use Rattle.nm_walks.specs.declared.seek_record.SeekRecord.{SeekRecord}
use Rattle.nm_calls.specs.Bounds.{IsWithinBound}
use Rattle.nm_calls.specs.Moments.{AnswerHasMoment}
use Rattle.nm_walks.specs.Walks.{EndsAtLeaf, IsTooLong}
use Rattle.nm_walks.specs.WonCounts.{won_splices}
use Rattle.nm_calls.specs.Won.{HasWon}

-- this many walks in a row were broken off
abbrev pub LostWalks : Layout → ℕ → ℕ → List Entry → List Entry → Type 0
LostWalks L k zero old new = new ≡ old
LostWalks L k (suc t) old new =
    (mid : List Entry) × LostWalks L k t old mid × IsTooLong L k mid new

-- the log has a pin for the look-up, fewer than `tries` broken walks, a walk whose leaf has key k
-- exactly if the answer is true, and a leave with the answer
pub record HasDid (L : Layout) (tries k : ℕ) (old new : List Entry) (answer : Bool) : Type 0 where
  pub pinned : List Entry
  pub epoch : ℕ
  pub pin : IsPinnedBy (SightFor Has k) tries old pinned epoch
  pub broken : ℕ
  pub few : broken < tries
  pub begun : List Entry
  pub lost : LostWalks L k broken pinned begun
  pub ended : List Entry
  pub seek_record : SeekRecord
  pub chain : List ChainEdge
  pub key : ℕ
  pub walk : EndsAtLeaf L k begun ended seek_record chain key
  pub answers : answer ≡ (key == k)
  pub leaves : new ≡ ended ++ (LeaveWith answer, Departed) ∷ []

-- the call had no try, and there was no step; or each try of the pin was lost; or the log has a
-- pin, `tries` broken walks, and a leave
abbrev pub HasMissed : Layout → ℕ → ℕ → List Entry → List Entry → Type 0
HasMissed L zero k old new = new ≡ old
HasMissed L (suc t) k old new =
    IsMoved (SightFor Has k) (suc t) old new
    ⊎ ((a z : List Entry) × (epoch : ℕ) × IsPinnedBy (SightFor Has k) (suc t) old a epoch
    × LostWalks L k (suc t) a z × (new ≡ z ++ (Leave, Departed) ∷ []))

-- what a look-up leaves of its pass, by its answer. It is the same pass, which has seen all that it
-- had seen. The record says what was done, or why not. An answer was right at a moment
-- (linearization point) of the call. No exchange was won, and the log has a bound. The worker
-- rests, and holds what it held
pub record AfterHas (L : Layout) (tries k : ℕ) (p q : PassView) (r : Result Bool CallFault) : Type 0 where
  pub same : IsSamePass p q
  pub past : HasSeenAllOf q p
  pub did : IfOk r (HasDid L tries k p.view.log q.view.log)
  pub moment : IfOk r (AnswerHasMoment p q Has k)
  pub busy : IfErr r (λ e. e ≡ fault.Busy)
  pub missed : IfErr r (λ e. HasMissed L tries k p.view.log q.view.log)
  pub won : HasWon p.view.log q.view.log 0 0
  pub uncut : won_splices q.view.log ≡ won_splices p.view.log
  pub steps : IsWithinBound L tries p.view.log q.view.log
  pub rests : IsResting q
  pub hands : KeepsHands p q
