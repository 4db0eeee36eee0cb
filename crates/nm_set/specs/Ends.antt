-- The close of a set: what its report accounts for, and what an error leaves.
use Rattle.std.specs.Prelude.{◌≡◌, List, [], ◌∷◌, ◌++◌, true, false, Some}
use Rattle.nm_tree.specs.declared.closing.CloseReason.{CloseReason}
use Rattle.nm_tree.specs.declared.closing.CloseReason.TheVariants as because
use Rattle.nm_tree.specs.declared.closing.Ended.{Ended}
use Rattle.nm_tree.specs.declared.closing.Report.{Report}
use Rattle.nm_tree.specs.declared.map_closing.MapReport.{MapReport}
use Rattle.nm_tree.specs.Closing.{IsCloseReason, SaysClosed}
use Rattle.nm_tree.specs.MapReports.{EndsMap, SaysMapClosed}
use Rattle.nm_tree.specs.Workers.{WorkerView}
use Rattle.nm_set.specs.declared.ending.EndError.{EndError}
use Rattle.nm_set.specs.declared.ending.EndError.TheVariants.{Attached, Gathered}
use Rattle.nm_set.specs.declared.set.KeepReturnedError.{KeepReturnedError}
use Rattle.nm_set.specs.declared.set.KeepReturnedError.TheVariants.{Taken, NoMemory}
use Rattle.nm_set.specs.Posts.{ReturnedView}
use Rattle.nm_set.specs.Seats.{MemberView, SetView}

-- What a caller learns from a closed set. Its tree was closed with the workers that the set kept,
-- each unchanged, and then with those that had been returned. Which workers those were is not said,
-- except that there are none if a refused close had gathered all
pub record SaysEnded (s : SetView) (r : Report) : Type 0 where
  pub home : List WorkerView
  pub none : s.closing ≡ true → home ≡ []
  pub says : SaysClosed s.tree (s.kept ++ home) r.queues.items r.keys.items r.free r.reached

-- what a caller learns from a closed map: the same, and its values
pub record SaysMapEnded (s : SetView) (r : MapReport) : Type 0 where
  pub home : List WorkerView
  pub none : s.closing ≡ true → home ≡ []
  pub says : SaysMapClosed s.tree (s.kept ++ home) r.report.queues.items r.report.keys.items
      r.values.keyed r.values.slots r.values.bare r.report.free r.report.reached

-- what the end of a map leaves, before its report is made
pub record EndsMapSet (s : SetView) (e : Ended) : Type 0 where
  pub home : List WorkerView
  pub none : s.closing ≡ true → home ≡ []
  pub ends : EndsMap s.tree (s.kept ++ home) e.report.queues.items e.report.keys.items
      e.leaves.items e.words e.layout e.report.free e.report.reached

-- a set whose workers were gathered keeps those that it kept, and then those that had been
-- returned; with them its tree was not closed, for that reason
pub record HasGathered (s : SetView) (why : CloseReason) (t : SetView) : Type 0 where
  pub tree : t.tree ≡ s.tree
  pub fit : t.fit ≡ s.fit
  pub closing : t.closing ≡ true
  pub home : List WorkerView
  pub kept : t.kept ≡ s.kept ++ home
  pub none : s.closing ≡ true → home ≡ []
  pub reason : IsCloseReason t.tree t.kept why

-- why a set was not closed, and what the set is then: it is open and unchanged, or its workers were
-- gathered
abbrev pub IsLeftOpen : SetView → CloseReason → SetView → Type 0
IsLeftOpen s because.Attached t = (s.closing ≡ false) × (t ≡ s)
IsLeftOpen s why t = HasGathered s why t

-- ---- workers that are kept after they were returned

-- the set keeps the worker, as it was returned, after those that it kept before
abbrev pub KeepsReturned : SetView → ReturnedView → SetView → Type 0
KeepsReturned s r t = (w : WorkerView) × (r.worker ≡ Some w) × (t ≡ record s { kept = s.kept ++ w ∷ [] })

-- what was returned is unchanged; or a member of its tree has the worker as it was returned
abbrev pub IsNotKept : ReturnedView → KeepReturnedError ReturnedView MemberView → Type 0
IsNotKept r (Taken s) = s ≡ r
IsNotKept r (NoMemory m) = (m.tree ≡ r.tree) × (r.worker ≡ Some m.worker)

-- ---- the close by the last member

-- a set that keeps the worker of this member, unchanged, and no other
abbrev pub set_of : MemberView → SetView
set_of m = record { tree = m.tree; fit = m.worker.fit; closing = false; kept = m.worker ∷ [] }

-- what is left of a member that has not closed its set: the member is unchanged; or the workers
-- were gathered, and a set keeps the member's worker, and then those that had been returned, and
-- its tree was not closed for that reason
abbrev pub IsNotEnded : MemberView → EndError MemberView SetView → Type 0
IsNotEnded m (Attached n) = n ≡ m
IsNotEnded m (Gathered e) = HasGathered (set_of m) e.reason e.set
