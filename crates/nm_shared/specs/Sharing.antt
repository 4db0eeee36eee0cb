-- A set that any thread calls: its workers sit on seats, and each call borrows one.
use Rattle.std.specs.Prelude.{◌≡◌, ◌<◌, ℕ, Bool, List, [], ◌∷◌, ◌++◌, Option, None, Some, Result, Ok}
use Rattle.atomic_table.specs.Seated.{TableId}
use Rattle.nm_calls.specs.declared.fault.CallFault.{CallFault}
use Rattle.nm_calls.specs.declared.many.Query.{Query}
use Rattle.nm_calls.specs.declared.scanning.Scanned.{Scanned}
use Rattle.nm_edge.specs.declared.edge.Side.{Side}
use Rattle.nm_lending.specs.declared.knowing.Look.{Look}
use Rattle.nm_lending.specs.declared.knowing.Visit.{Visit}
use Rattle.nm_lending.specs.Views.{FoundAway, LoanView}
use Rattle.nm_lending.specs.Visits.{AreApart, AreInOrder}
use Rattle.nm_model.specs.Acts.{Act}
use Rattle.nm_model.specs.Histories.{IsHistory}
use Rattle.nm_model.specs.declared.event.Op.{Op}
use Rattle.nm_model.specs.declared.trace.Turn.{Turn}
use Rattle.nm_set.specs.declared.managed.Options.{Options}
use Rattle.nm_set.specs.Managed.{SaysManaged}
use Rattle.nm_set.specs.InTurns.{AskedMany}
use Rattle.nm_set.specs.NextKeys.{AskedNext, AskedPrev}
use Rattle.nm_set.specs.Popping.{SaysManagedPopOf}
use Rattle.nm_set.specs.Scanning.{AskedScan}
use Rattle.nm_set.specs.Seats.{MemberView, SetView}
use Rattle.nm_steps.specs.Rules.{Extends}
use Rattle.nm_steps.specs.Steps.{PassView, Notice, IsSamePass, HasSeenAllOf}
use Rattle.nm_tree.specs.Workers.{WorkerView}
use Rattle.nm_shared.specs.OwnActs.{WorkerGoesOn, HaveOwnActs, HaveActsInOrder}

-- ---- what sits on seats

abbrev pub pass_of : MemberView → PassView
pass_of m = m.worker.pass

-- on seat i sits the member of worker i of the set, which nobody has pinned
pub record Sits (s : SetView) (i : ℕ) (m : MemberView) : Type 0 where
  pub tree : m.tree ≡ s.tree
  pub layout : m.worker.pass.view.layout ≡ s.tree.layout
  pub number : m.worker.pass.view.number ≡ i
  pub free : m.worker.held ≡ None

-- the same in each sitting
abbrev pub SitsIn : SetView → ℕ → ℕ → MemberView → Type 0
SitsIn s i n m = Sits s i m

abbrev pub goes_on : SetView → MemberView → MemberView → Type 0
goes_on s m n = WorkerGoesOn pass_of m n

-- what clauses see of a shared set: the set, as it was when it was made, and its seats
pub record SharedView : Type 0 where
  pub set : SetView
  pub table : TableId

-- what clauses see of a caller: its visits, a note of what it has seen by the last one, and the looks at
-- seats by which it found no worker
pub record CallerView : Type 0 where
  pub table : TableId
  pub site : Option SetView
  pub visits : List (Visit MemberView)
  pub note : Option Notice
  pub looks : List Look

-- the caller is one of this shared set
pub record IsCallerOf (s : SharedView) (c : CallerView) : Type 0 where
  pub table : c.table ≡ s.table
  pub site : c.site ≡ Some s.set
  pub note : (n : Notice) → c.note ≡ Some n → n.table ≡ s.set.tree.table

-- a note of all that the member's worker has seen
abbrev pub note_of : MemberView → Notice
note_of m = record {
  table = m.worker.pass.table;
  past = m.worker.pass.view.past;
  stores = m.worker.pass.view.stores;
}

-- the worker has heard the note, if there is one, and has taken no step
pub record HasHeardNote (w : WorkerView) (note : Option Notice) (z : WorkerView) : Type 0 where
  pub rest : z ≡ record w { pass = z.pass }
  pub same : IsSamePass w.pass z.pass
  pub past : HasSeenAllOf z.pass w.pass
  pub heard : (n : Notice) → note ≡ Some n → Extends z.pass.view.past n.past

-- ---- a loan

-- a member was borrowed, and has heard what the caller had seen
pub record IsBorrowed (s : SharedView) (c : CallerView) (m : MemberView)
    (l : LoanView MemberView SetView) : Type 0 where
  pub was : MemberView
  pub table : l.table ≡ s.table
  pub site : l.site ≡ Some s.set
  pub taken : l.taken ≡ Some was
  pub visits : l.visits ≡ c.visits
  pub here : Sits s.set l.seat was
  pub tree : m.tree ≡ was.tree
  pub heard : HasHeardNote was.worker c.note m.worker

-- what clauses see of a worker that its caller keeps: the member, and the loan
pub record AttachedView : Type 0 where
  pub member : MemberView
  pub loan : LoanView MemberView SetView

-- the member may be given back
pub record MayComeBack (s : SharedView) (l : LoanView MemberView SetView) (n : MemberView) : Type 0 where
  pub table : l.table ≡ s.table
  pub site : l.site ≡ Some s.set
  pub sits : Sits s.set l.seat n
  pub goes : (x : MemberView) → l.taken ≡ Some x → goes_on s.set x n

-- a caller could borrow no worker, and is as it was, but for its looks: it found each seat away, one after
-- the other
pub record NoneWasFree (s : SharedView) (was now : CallerView) : Type 0 where
  pub looks : List Look
  pub same : now ≡ record was { looks = was.looks ++ looks }
  pub each : (i : ℕ) → i < s.table.words → i < 4294967295 → FoundAway looks i

-- ---- what a call says

-- the caller made one visit more, to the worker of some seat. This worker first heard what the caller had
-- seen, and then `Says` holds from there to what it was given back as. The caller has a note of that
pub record Visited (Says : WorkerView → WorkerView → Type 0) (s : SharedView) (was now : CallerView) : Type 0 where
  pub visit : Visit MemberView
  pub begun : WorkerView
  pub more : now.visits ≡ was.visits ++ visit ∷ []
  pub found : Sits s.set visit.seat visit.was
  pub left : Sits s.set visit.seat visit.left
  pub heard : HasHeardNote visit.was.worker was.note begun
  pub says : Says begun visit.left.worker
  pub note : now.note ≡ Some (note_of visit.left)

-- `SaysShared`, `SaysSharedPop`, `SaysSharedNext`, `SaysSharedPrev`, `SaysSharedMany`, `SaysSharedScan`:
-- what a call of a member says, by the worker of one visit. A call that has no rounds has the tries of
-- the options
abbrev pub SaysShared : Op → SharedView → Options → ℕ → CallerView → CallerView → Result Bool CallFault → Type 0
SaysShared op s h k was now r = Visited (λ w z. SaysManaged op s.set.tree h k w z r) s was now

abbrev pub SaysSharedPop : (ℕ → Type 0) → (ℕ → ℕ → Type 0) → SharedView → Options → CallerView → CallerView
    → Result (Option ℕ) CallFault → Type 0
SaysSharedPop Among Before s h was now r =
    Visited (λ w z. SaysManagedPopOf Among Before s.set.tree h w z r) s was now

abbrev pub SaysSharedNext : SharedView → Options → ℕ → CallerView → CallerView → Result (Option ℕ) CallFault → Type 0
SaysSharedNext s h k was now r = Visited (λ w z. AskedNext s.set.tree.layout h.tries k w z r) s was now

abbrev pub SaysSharedPrev : SharedView → Options → ℕ → CallerView → CallerView → Result (Option ℕ) CallFault → Type 0
SaysSharedPrev s h k was now r = Visited (λ w z. AskedPrev s.set.tree.layout h.tries k w z r) s was now

abbrev pub SaysSharedMany : SharedView → Options → List Query → List Query → CallerView → CallerView
    → Result (Unit {0}) CallFault → Type 0
SaysSharedMany s h old new was now r = Visited (λ w z. AskedMany s.set.tree.layout h.tries old new w z r) s was now

abbrev pub SaysSharedScan : Side → SharedView → Options → ℕ → ℕ → List ℕ → List ℕ → CallerView → CallerView
    → Result Scanned CallFault → Type 0
SaysSharedScan side s h from to old new was now r =
    Visited (λ w z. AskedScan side s.set.tree.layout h.tries from to old new w z r) s was now

-- ---- the laws of two answers

-- in each history of all turns that extend what both visits left, the answers are those of two
-- different calls of one plain set
abbrev pub AnswersApart : Op → Op → SharedView → ℕ → ℕ → Bool → Bool → Visit MemberView → Visit MemberView → Type 0
AnswersApart op_a op_b s k_a k_b x_a x_b a b = (turns : List Turn) (acts : List Act)
    → IsHistory s.set.tree.layout turns acts
    → Extends turns a.left.worker.pass.view.past → Extends turns b.left.worker.pass.view.past
    → HaveOwnActs acts op_a op_b k_a k_b x_a x_b

-- in each history of all turns that extend what the caller has seen, the first answer is that of a call
-- before the second one
abbrev pub AnswersInOrder : Op → Op → SharedView → ℕ → ℕ → Bool → Bool → Notice → Type 0
AnswersInOrder op_a op_b s k_a k_b x_a x_b n = (turns : List Turn) (acts : List Act)
    → IsHistory s.set.tree.layout turns acts → Extends turns n.past
    → HaveActsInOrder acts op_a op_b k_a k_b x_a x_b

-- two calls by one caller, the one after the other, are in order, also by different workers
abbrev pub CallsOfOneCallerAreInOrder : Type 0
CallsOfOneCallerAreInOrder = (op_a op_b : Op) (s : SharedView) (h : Options) (k_a k_b : ℕ) (x_a x_b : Bool)
    → (was mid now : CallerView)
    → SaysShared op_a s h k_a was mid (Ok x_a) → (second : SaysShared op_b s h k_b mid now (Ok x_b))
    → AnswersInOrder op_a op_b s k_a k_b x_a x_b (note_of second.visit.left)

-- two visits of which a caller is shown that they are apart and in order have different calls, whoever made
-- them
abbrev pub ShownCallsAreApart : Type 0
ShownCallsAreApart = (op_a op_b : Op) (s : SharedView) (h : Options) (k_a k_b : ℕ) (x_a x_b : Bool)
    → (was_a now_a was_b now_b shown : CallerView)
    → (first : SaysShared op_a s h k_a was_a now_a (Ok x_a)) → (second : SaysShared op_b s h k_b was_b now_b (Ok x_b))
    → AreApart shown.visits → AreInOrder (goes_on s.set) shown.visits
    → (before between after : List (Visit MemberView))
    → shown.visits ≡ (before ++ first.visit ∷ []) ++ (between ++ second.visit ∷ after)
    → AnswersApart op_a op_b s k_a k_b x_a x_b first.visit second.visit
