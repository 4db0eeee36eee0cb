-- Deletes that expect a value.
use Rattle.std.specs.Prelude.{◌≡◌, ◌≢◌, ◌<◌, ℕ, List, [], ◌∷◌, ◌++◌, Some, None, Result, Ok, Err}
use Rattle.nm_edge.specs.Keys.{IsKey}
use Rattle.nm_edge.specs.Layouts.{Layout}
use Rattle.nm_model.specs.declared.event.Event.TheVariants.{Leave, SightFor}
use Rattle.nm_model.specs.declared.event.Op.TheVariants.{Delete}
use Rattle.nm_model.specs.declared.reply.Reply.TheVariants.{Departed}
use Rattle.nm_model.specs.Walks.{Entry}
use Rattle.nm_steps.specs.Rules.{knowledge}
use Rattle.nm_steps.specs.Steps.{HasSeenAllOf, IsInRun, IsSamePass, PassView, TakesStep}
use Rattle.nm_epoch.specs.Resting.{IsResting, search}
use Rattle.nm_epoch.specs.Tries.{IsPinnedBy}
use Rattle.nm_walks.specs.declared.seek_record.ChainEdge.{ChainEdge}
use Rattle.nm_walks.specs.declared.seek_record.WalkEnd.{WalkEnd}
use Rattle.nm_walks.specs.Cleanups.{KeepsLedgers}
use Rattle.nm_walks.specs.Telling.{GoesOn}
use Rattle.nm_walks.specs.Walks.{Seeks}
use Rattle.nm_calls.specs.declared.deleting.Deletion.{Deletion}
use Rattle.nm_calls.specs.declared.fault.CallFault.{CallFault}
use Rattle.nm_calls.specs.Bounds.{IsWithinBound}
use Rattle.nm_calls.specs.Deletes.{LostFlags}
use Rattle.nm_calls.specs.Maps.{HasReadValue, MapGave}
use Rattle.nm_calls.specs.Won.{HasWon}
use Rattle.nm_puts.specs.declared.removing.DeleteOutcome.{DeleteOutcome}
use Rattle.nm_puts.specs.declared.removing.DeleteOutcome.TheVariants as outcome

-- ---- its result

-- the result of a delete, as one of a delete that expects a value
abbrev pub outcome_of : Result Deletion CallFault → Result DeleteOutcome CallFault
outcome_of (Ok d) = Ok (outcome.Deletion d)
outcome_of (Err e) = Err e

-- if the key had no other value, this holds of the result as that of a delete
abbrev pub AsDelete : Result DeleteOutcome CallFault → (Result Deletion CallFault → Type 0) → Type 0
AsDelete (Ok (outcome.Deletion d)) P = P (Ok d)
AsDelete (Ok (outcome.Other found)) P = Unit {0}
AsDelete (Err e) P = P (Err e)

-- if the key had another value, this holds of it
abbrev pub IfOther : Result DeleteOutcome CallFault → (ℕ → Type 0) → Type 0
IfOther (Ok (outcome.Other found)) P = P found
IfOther _ P = Unit {0}

-- ---- its tries

-- a walk ended at a leaf with the key
abbrev pub FindsKey : Layout → ℕ → List Entry → List Entry → Type 0
FindsKey L k old new = (r : WalkEnd) × (c : List ChainEdge) × Seeks L k old new c (Some r) × (r.key ≡ k)

-- fewer than `tries` tries to flag were lost, and then a walk ended at a leaf with the key
abbrev pub FindsAfter : Layout → ℕ → ℕ → List Entry → List Entry → Type 0
FindsAfter L tries k old new = (t : ℕ) × (mid : List Entry) × (t < tries) × LostFlags L k t old mid
    × FindsKey L k mid new

-- the call has read the value `found` of a leaf with the key, which is not the expected one, and has
-- flagged nothing
pub record ReadsOther (p : PassView) (k expected found : ℕ) : Type 0 where
  pub other : found ≢ expected
  pub read : HasReadValue p k found
  pub unflagged : (search p).flagged ≡ None

-- after p a walk of the call for k has ended at a leaf with the key, and its value was read under the
-- same pin. The next step was a leave
pub record HasReadOther (p q : PassView) (k found : ℕ) : Type 0 where
  pub at : PassView
  pub since : GoesOn p at
  pub is_key : IsKey k
  pub read : HasReadValue at k found
  pub leaves : TakesStep at q Leave Departed

-- such a call from its pin on
pub record FoundOther (L : Layout) (tries k expected : ℕ) (p q : PassView) (found : ℕ) : Type 0 where
  pub other : found ≢ expected
  pub read : HasReadOther p q k found
  pub ended : List Entry
  pub finds : FindsAfter L tries k p.view.log ended
  pub leaves : q.view.log ≡ ended ++ (Leave, Departed) ∷ []
  pub rests : IsResting q

-- ---- the whole call

-- the log has a pin for a delete, fewer than `tries` lost tries to flag, a walk that ended at a leaf with
-- the key, and a leave
abbrev pub OtherDid : Layout → ℕ → ℕ → List Entry → List Entry → Type 0
OtherDid L tries k old new = (pinned : List Entry) × (epoch : ℕ) × (ended : List Entry)
    × IsPinnedBy (SightFor Delete k) tries old pinned epoch × FindsAfter L tries k pinned ended
    × (new ≡ ended ++ (Leave, Departed) ∷ [])

-- what a delete leaves of its pass that found the key with another value than the expected one. The map
-- gave this value at a moment (linearization point) of the call. Nothing was won. All else is as for a
-- delete that found the key absent, except that the worker leaves without an answer
pub record AfterOther (L : Layout) (tries k expected : ℕ) (p q : PassView) (found : ℕ) : Type 0 where
  pub same : IsSamePass p q
  pub past : HasSeenAllOf q p
  pub other : found ≢ expected
  pub map : MapGave p q k (Some found)
  pub did : OtherDid L tries k p.view.log q.view.log
  pub won : HasWon p.view.log q.view.log 0 0
  pub steps : IsWithinBound L tries p.view.log q.view.log
  pub run : IsInRun q
  pub rests : IsResting q
  pub private : (knowledge q.view).drafts ≡ (knowledge p.view).drafts
  pub ledgers : KeepsLedgers p q
