-- Calls during which no other worker makes a turn.
use Rattle.std.specs.Prelude.{◌≡◌, ◌≢◌, ℕ, ◌<◌, ◌≤◌, List, ◌++◌, None, All, Err}
use Rattle.nm_model.specs.declared.trace.Turn.{Turn}
use Rattle.nm_edge.specs.declared.edge.Side.{Side}
use Rattle.nm_edge.specs.declared.node.NodeId.{NodeId}
use Rattle.nm_edge.specs.declared.placement.Fit.{Fit}
use Rattle.nm_steps.specs.Steps.{PassView, IsSamePass, HasSeenAllOf, HasSeen}
use Rattle.nm_epoch.specs.Resting.{IsResting}
use Rattle.nm_walks.specs.Bounds.{chain_bound}
use Rattle.nm_calls.specs.declared.fault.CallFault.TheVariants as fault
use Rattle.nm_calls.specs.Calls.{HasMissed}
use Rattle.nm_calls.specs.Deletes.{DeleteDid, IsRemoving, LosesAfterFlag, LosesEachTry}
use Rattle.nm_calls.specs.InTurns.{GiveUp as GiveUpInTurns}
use Rattle.nm_calls.specs.Inserts.{InsertDid}
use Rattle.nm_calls.specs.NearKeys.{GiveUp as GiveUpNear}
use Rattle.nm_progress.specs.Pending.{leaf_after}
use Rattle.nm_progress.specs.Walked.{OfEachWalked}

-- the turns that q has seen after those of p are all of its own worker
pub record IsAlone (p q : PassView) : Type 0 where
  pub turns : List Turn
  pub is : q.view.past ≡ p.view.past ++ turns
  pub own : All (λ t. t.worker ≡ p.view.number) turns

-- no other worker has flagged a leaf in its current call, by what p has seen
abbrev pub NoOtherPends : PassView → Type 0
NoOtherPends p = (u : ℕ) → u < p.view.layout.workers → u ≢ p.view.number
    → leaf_after u None p.view.past ≡ None

-- the worker runs alone from p to q: no other worker makes a turn meanwhile, and no delete of
-- another worker was pending before
pub record RunsAlone (p q : PassView) : Type 0 where
  pub alone : IsAlone p q
  pub rests : NoOtherPends p

-- a look-up that runs alone and may make a try is answered
abbrev pub LookupsAloneAreAnswered : Type 0
LookupsAloneAreAnswered = (k tries : ℕ) (p q : PassView) → HasSeen p.view → HasSeen q.view
    → 5 ≤ p.view.layout.nodes → IsSamePass p q → HasSeenAllOf q p → IsAlone p q
    → HasMissed p.view.layout tries k p.view.log q.view.log → tries ≡ 0

-- an insert that runs alone and may make a try is not busy
abbrev pub InsertsAloneAreAnswered : Type 0
InsertsAloneAreAnswered = (fit : Fit) (k tries : ℕ) (p q : PassView) → HasSeen p.view
    → HasSeen q.view → 5 ≤ p.view.layout.nodes → IsSamePass p q → HasSeenAllOf q p → RunsAlone p q
    → IsResting p → InsertDid fit p.view.layout tries k p.view.log q.view.log (Err fault.Busy)
    → tries ≡ 0

-- a delete that runs alone and may make a try is not busy
abbrev pub DeletesAloneAreNotBusy : Type 0
DeletesAloneAreNotBusy = (k tries : ℕ) (p q : PassView) → HasSeen p.view
    → HasSeen q.view → 5 ≤ p.view.layout.nodes → IsSamePass p q → HasSeenAllOf q p → RunsAlone p q
    → IsResting p → DeleteDid p.view.layout tries k p.view.log q.view.log (Err fault.Busy)
    → tries ≡ 0

-- a delete that runs alone and has flagged its leaf loses no try after that: it is finished, if it
-- may make two tries and has the room for them
abbrev pub DeletesAloneAreFinished : Type 0
DeletesAloneAreFinished = (k tries : ℕ) (n : NodeId) (p q : PassView) → HasSeen p.view
    → HasSeen q.view → 5 ≤ p.view.layout.nodes → IsSamePass p q → HasSeenAllOf q p → RunsAlone p q
    → IsResting p → LosesAfterFlag p.view.layout tries k p.view.log q.view.log n → tries ≤ 1

-- a call that goes on with a delete, and runs alone, loses no try, even if deletes of other workers
-- are pending: it ends the delete if it may make a try and has the room for it
abbrev pub FinishesAloneAreAnswered : Type 0
FinishesAloneAreAnswered = (k tries : ℕ) (n : NodeId) (p q : PassView) → HasSeen p.view
    → HasSeen q.view → 5 ≤ p.view.layout.nodes → p.view.layout.workers ≤ chain_bound
    → IsSamePass p q → HasSeenAllOf q p → IsAlone p q → IsRemoving q k n
    → LosesEachTry p.view.layout k n tries p.view.log q.view.log → tries ≡ 0

-- a look-up of several keys that runs alone and may make a try is answered, and so is a call for
-- the next or the previous key that may make two tries
abbrev pub ManyAloneAreAnswered : Type 0
ManyAloneAreAnswered = (keys : List ℕ)
    → OfEachWalked (λ p tries. GiveUpInTurns p.view.layout keys)
    (λ p q tries. IsAlone p q → tries ≡ 0)

abbrev pub NearAloneAreAnswered : Type 0
NearAloneAreAnswered = (side : Side) (k : ℕ)
    → OfEachWalked (λ p tries. GiveUpNear side p.view.layout tries k)
    (λ p q tries. IsAlone p q → tries ≤ 1)
