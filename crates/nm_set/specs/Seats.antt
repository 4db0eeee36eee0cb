-- Members of a set, and the seats of its workers that no member has.
use Rattle.std.specs.Prelude.{◌≡◌, ◌⊎◌, ◌+◌, ◌<◌, ◌≤◌, ℕ, suc, length, Bool, true, false, List, [], ◌∷◌, ◌++◌, Option, Some, None, IsSome, Result, Ok, Err}
use Rattle.nm_steps.specs.Steps.{TreeView, IsOf}
use Rattle.nm_edge.specs.declared.placement.Fit.{Fit}
use Rattle.nm_tree.specs.Calls.{LeavesUnpin}
use Rattle.nm_tree.specs.Workers.{AreNew, WorkerView}
use Rattle.nm_set.specs.declared.fault.MemberFault.{MemberFault}
use Rattle.nm_set.specs.declared.fault.MemberFault.TheVariants as taking
use Rattle.nm_tree.specs.declared.resigning.ResignReason.{ResignReason}
use Rattle.nm_tree.specs.declared.resigning.ResignReason.TheVariants as because
use Rattle.nm_set.specs.declared.home.Absence.{Absence}
use Rattle.nm_set.specs.declared.home.Absence.TheVariants as absence
use Rattle.nm_set.specs.declared.home.Site.{Site}
use Rattle.atomic_table.specs.Seated.{TableId}
use Rattle.nm_lending.specs.Visits.{AreSeated}
use Rattle.nm_lending.specs.Views.{CallerView, LendingView, LoanView}

-- what clauses see of a member: the tree on which it works, its worker, and how often that worker
-- had been returned to its seat before this member got it
pub record MemberView : Type 0 where
  pub tree : TreeView
  pub worker : WorkerView
  pub returns : ℕ

-- what clauses see of a home: its tree, the fit by which its workers claim, and the table of its
-- seats
pub record HomeView : Type 0 where
  pub tree : TreeView
  pub fit : Fit
  pub seats : TableId

-- the tree of a home, and its fit
abbrev pub site_in : HomeView → Site
site_in h = record { tree = h.tree; fit = h.fit }

-- what clauses see of a set: its tree; the fit by which its workers claim; whether a refused close
-- has gathered them; and the workers that it keeps, as they were when they came. It keeps the
-- workers of members that were kept, and after a refused close all that were gathered
pub record SetView : Type 0 where
  pub tree : TreeView
  pub fit : Fit
  pub closing : Bool
  pub kept : List WorkerView

-- a worker of that tree that has not resigned
pub record IsOwn (b : TreeView) (w : WorkerView) : Type 0 where
  pub own : IsOf b w.pass
  pub alive : w.pass.view.resigned ≡ false

-- these are workers of that tree that have not resigned
abbrev pub AreOwn : TreeView → List WorkerView → Type 0
AreOwn b [] = Unit {0}
AreOwn b (w ∷ ws) = IsOwn b w × AreOwn b ws

-- the worker of that number in that tree, which has not resigned, claims by that fit, and is not
-- pinned by its caller
pub record IsResident (b : TreeView) (f : Fit) (i : ℕ) (w : WorkerView) : Type 0 where
  pub own : IsOf b w.pass
  pub alive : w.pass.view.resigned ≡ false
  pub number : w.pass.view.number ≡ i
  pub fit : w.fit ≡ f
  pub free : w.held ≡ None

-- such a worker of that tree, of any number
pub record IsAnyResident (b : TreeView) (f : Fit) (w : WorkerView) : Type 0 where
  pub own : IsOf b w.pass
  pub alive : w.pass.view.resigned ≡ false
  pub fit : w.fit ≡ f
  pub free : w.held ≡ None

-- the seats of a home
abbrev pub seats_in : HomeView → LendingView Site
seats_in h = record { table = h.seats; site = site_in h }

-- the worker of seat i sits there in sitting n; in sitting 0, in which it was never taken from there,
-- it is new
pub record sits (b : Site) (i n : ℕ) (w : WorkerView) : Type 0 where
  pub resident : IsResident b.tree b.fit i w
  pub first : n ≡ 0 → AreNew b.tree i (w ∷ [])

-- how a worker may change while it is not on its seat: in any way
abbrev pub changes : Site → WorkerView → WorkerView → Type 0
changes b w z = Unit {0}

-- on seat i of that site, on seat i + 1, and so on, sit workers that were never taken from them
abbrev pub AreOnSeats : Site → ℕ → List (Option WorkerView) → Type 0
AreOnSeats b i ws = AreSeated sits b i ws

-- the worker may come back to its own one of these seats
pub record MayReturn (s : LendingView Site) (w : WorkerView) (back : LoanView WorkerView Site) : Type 0 where
  pub table : back.table ≡ s.table
  pub site : back.site ≡ Some s.site
  pub seat : back.seat ≡ w.pass.view.number

-- the ticket shows that this very worker sat down on one of these seats
pub record IsTicketOf (s : LendingView Site) (w : WorkerView) (t : CallerView WorkerView Site) : Type 0 where
  pub table : t.table ≡ s.table
  pub site : t.site ≡ Some s.site
  pub value : t.left ≡ Some w

-- the worker is not pinned by its caller: it is unchanged, or was unpinned
abbrev pub IsLetGo : WorkerView → WorkerView → Type 0
IsLetGo w z = ((w.held ≡ None) × (z ≡ w)) ⊎ (IsSome w.held × LeavesUnpin w z)

-- the member of worker k of that tree, which claims by that fit and has done nothing yet
pub record IsNewMember (b : TreeView) (f : Fit) (k : ℕ) (m : MemberView) : Type 0 where
  pub tree : m.tree ≡ b
  pub fit : m.worker.fit ≡ f
  pub new : AreNew b k (m.worker ∷ [])

-- the new members of worker k, of worker k + 1, and so on
abbrev pub AreNewMembers : TreeView → Fit → ℕ → List MemberView → Type 0
AreNewMembers b f k [] = Unit {0}
AreNewMembers b f k (m ∷ ms) = IsNewMember b f k m × AreNewMembers b f (suc k) ms

-- the places of worker i of that site, of the next one, and so on
abbrev pub ArePlaces : Site → ℕ → List (Site × ℕ) → Type 0
ArePlaces b i [] = Unit {0}
ArePlaces b i (s ∷ ss) = (s ≡ (b, i)) × ArePlaces b (suc i) ss

-- no worker is kept, or there is room for all workers of that tree after the kept ones
abbrev pub HasRoom : TreeView → List WorkerView → ℕ → Type 0
HasRoom b kept room = (kept ≡ []) ⊎ (length kept + b.layout.workers ≤ room)

-- the second list begins with the first
abbrev pub BeginsWith : List WorkerView → List WorkerView → Type 0
BeginsWith ws all = (rest : List WorkerView) × (all ≡ ws ++ rest)

-- why a worker that is not on its seat does not resign
abbrev pub told_absence : Absence → ResignReason
told_absence absence.Number = because.Number
told_absence absence.Attached = because.Attached

-- `IsAbsence`: the reason is that no worker was found on its seat. `Stays`: the worker was found there,
-- and does not resign for this reason: it has a pending key, or it has none, and memory was refused
abbrev pub IsAbsence : ResignReason → Type 0
IsAbsence because.Number = Unit {0}
IsAbsence because.Attached = Unit {0}
IsAbsence _ = ⊥

abbrev pub Stays : WorkerView → ResignReason → Type 0
Stays w because.Pending = IsSome w.pending
Stays w because.NoMemory = w.pending ≡ None
Stays w _ = ⊥

-- why the worker of that number has not resigned to a member: `Number`: the tree has none of that
-- number; `Attached`: the tree has one; otherwise the tree has one, which stays for that reason
abbrev pub IsStaying : MemberView → ℕ → ResignReason → Type 0
IsStaying m i because.Number = m.tree.layout.workers ≤ i
IsStaying m i because.Attached = i < m.tree.layout.workers
IsStaying m i why = (i < m.tree.layout.workers) × (w : WorkerView)
    × IsResident m.tree m.worker.fit i w × Stays w why

-- which answers `is_attached` gives: a boolean only for an open set and a number of its tree, else
-- an error; no clause says that the boolean is right
abbrev pub TellsAttached : SetView → ℕ → Result Bool MemberFault → Type 0
TellsAttached s i (Ok away) = (s.closing ≡ false) × (i < s.tree.layout.workers)
TellsAttached s i (Err taking.Number) = (s.closing ≡ false) × (s.tree.layout.workers ≤ i)
TellsAttached s i (Err taking.Closing) = s.closing ≡ true
TellsAttached s i (Err taking.Attached) = ⊥
TellsAttached s i (Err taking.NoWorker) = ⊥
TellsAttached s i (Err taking.Uncounted) = ⊥
