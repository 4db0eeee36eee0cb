-- What callers of a shared set prove of their answers.
use Rattle.std.specs.Prelude.{◌≡◌, ◌<◌, ℕ, Bool, true, All, List, ◌++◌, ◌∷◌, [], map, Result, Some}
use Rattle.nm_calls.specs.declared.fault.CallFault.{CallFault}
use Rattle.nm_calls.specs.InTurns.{key_of}
use Rattle.nm_calls.specs.Maps.{MapGaveUnderPin}
use Rattle.nm_calls.specs.Moments.{AnswerHasMoment}
use Rattle.nm_calls.specs.NearKeys.{WasNear}
use Rattle.nm_calls.specs.ValuesInTurns.{answer_of}
use Rattle.nm_calls.specs.declared.many.Query.{Query}
use Rattle.nm_edge.specs.declared.edge.Side.TheVariants.{Right}
use Rattle.nm_lending.specs.declared.knowing.Look.{Look}
use Rattle.nm_lending.specs.declared.knowing.Visit.{Visit}
use Rattle.nm_lending.specs.Views.{FoundAway}
use Rattle.nm_model.specs.declared.event.Op.TheVariants.{Has, Insert, Delete}
use Rattle.nm_set.specs.declared.managed.Options.{Options}
use Rattle.nm_set.specs.Managed.{SaysManaged}
use Rattle.nm_set.specs.Maps.{TookMeanwhile}
use Rattle.nm_set.specs.Seats.{MemberView}
use Rattle.nm_shared.specs.Sharing.{SharedView, CallerView, AnswersApart, AnswersInOrder, HasHeardNote}
use Rattle.nm_steps.specs.Steps.{HasSeenAllOf, Notice, TreeView}
use Rattle.nm_tree.specs.Workers.{WorkerView}

-- in each history of all turns that extend what the caller has seen, the insert is before the look-up
abbrev pub FindsAfterInsert : SharedView → ℕ → CallerView → Bool × Bool → Type 0
FindsAfterInsert s k c x = (n : Notice) × (c.note ≡ Some n) × AnswersInOrder Insert Has s k k x.0 x.1 n

-- the worker was asked to insert the key, and after that to look it up, with these results
pub record InsertedThenFound (b : TreeView) (h : Options) (k : ℕ) (inserts finds : Result Bool CallFault)
    (w z : WorkerView) : Type 0 where
  pub between : WorkerView
  pub inserted : SaysManaged Insert b h k w between inserts
  pub found : SaysManaged Has b h k between z finds

-- each caller made one visit, and in each history of all turns that extend what both left, the removes
-- are different calls
abbrev pub RemovesApart : SharedView → ℕ → CallerView → CallerView → CallerView → Bool × Bool → Type 0
RemovesApart s k one two now x = (a b : Visit MemberView)
    × (now.visits ≡ (one.visits ++ a ∷ []) ++ (two.visits ++ b ∷ []))
    × AnswersApart Delete Delete s k k x.0 x.1 a b

-- the caller made one visit more, whose worker first heard what the caller had seen. After that, and before
-- the end of the visit, the worker removed the key at a moment (linearization point). The key is below the
-- bound
pub record TookDue (was now : CallerView) (below k : ℕ) : Type 0 where
  pub visit : Visit MemberView
  pub more : now.visits ≡ was.visits ++ visit ∷ []
  pub due : k < below
  pub begun : WorkerView
  pub heard : HasHeardNote visit.was.worker was.note begun
  pub moment : AnswerHasMoment begun.pass visit.left.worker.pass Delete k true

-- the caller made one visit more, whose worker first heard what the caller had seen. After that, and before
-- the end of the visit, the worker flagged the leaf of the key, and right before that the map had the key
-- with this value in this leaf
pub record TookValue (was now : CallerView) (k v : ℕ) : Type 0 where
  pub visit : Visit MemberView
  pub more : now.visits ≡ was.visits ++ visit ∷ []
  pub begun : WorkerView
  pub heard : HasHeardNote visit.was.worker was.note begun
  pub took : TookMeanwhile begun.pass visit.left.worker.pass k v

-- the caller made one visit more, whose worker first heard what the caller had seen. After that, and before
-- the end of the visit, the set had the key at a moment, and each lower one that is not below the bound was
-- absent at a moment of its own
pub record FoundNext (was now : CallerView) (least k : ℕ) : Type 0 where
  pub visit : Visit MemberView
  pub more : now.visits ≡ was.visits ++ visit ∷ []
  pub begun : WorkerView
  pub heard : HasHeardNote visit.was.worker was.note begun
  pub near : WasNear Right begun.pass visit.left.worker.pass least (Some k)

-- the caller made one visit more, whose worker first heard what the caller had seen. After that, and before
-- the end of the visit, it was pinned, and under this pin it looked up the users. The map had each of them
-- with the time in its query, or did not have the user, at a moment of its own
pub record ReadLogIns (was now : CallerView) (old new : List Query) : Type 0 where
  pub visit : Visit MemberView
  pub more : now.visits ≡ was.visits ++ visit ∷ []
  pub begun : WorkerView
  pub heard : HasHeardNote visit.was.worker was.note begun
  pub pinned : WorkerView
  pub asked : WorkerView
  pub since : HasSeenAllOf pinned.pass begun.pass
  pub until : HasSeenAllOf visit.left.worker.pass asked.pass
  pub keys : map key_of new ≡ map key_of old
  pub gave : All (λ q. MapGaveUnderPin pinned.pass asked.pass q.key (answer_of q)) new

-- by looks that the caller made meanwhile, worker i was away, or another call was faster there
pub record FoundTaken (i : ℕ) (was now : CallerView) : Type 0 where
  pub looks : List Look
  pub more : now.looks ≡ was.looks ++ looks
  pub away : FoundAway looks i
