-- What calls on a set return and leave.
use Rattle.std.specs.Prelude.{◌≡◌, ◌≤◌, ◌⊎◌, ◌↔◌, ℕ, Bool, true, false, [], None, Result, Ok, Err}
use Rattle.nm_edge.specs.Layouts.{Layout}
use Rattle.nm_edge.specs.declared.placement.Fit.{Fit}
use Rattle.nm_set.specs.declared.fault.MemberFault.{MemberFault}
use Rattle.nm_set.specs.declared.fault.MemberFault.TheVariants as taking
use Rattle.nm_set.specs.Ends.{HasGathered, IsLeftOpen, SaysEnded, set_of}
use Rattle.nm_set.specs.Seats.{SetView, MemberView, IsResident, IsAnyResident, TellsAttached}
use Rattle.nm_tree.specs.Workers.{WorkerView}
use Rattle.nm_tree.specs.declared.closing.CloseReason.{CloseReason}
use Rattle.nm_set_c.specs.Outcomes.{of_bool, of_taking, of_reason}
use Rattle.nm_set_c.specs.Handles.{Hold, Closed, Open, IsRefused, CannotOpen}
use Rattle.nm_set_c.specs.declared.outcome.Outcome.{Outcome}
use Rattle.nm_set_c.specs.declared.outcome.Outcome.TheVariants as outcome
use Rattle.nm_set_c.specs.declared.owner.Owner.{Owner}
use Rattle.nm_set_c.specs.declared.owner.Owner.TheVariants.{Set, Worker, Ended}
use Rattle.nm_set_c.specs.Owners.{ByKind}
use Rattle.nm_set_c.specs.declared.remains.Remains.{Remains}

-- ---- a new set

-- `HasNodes`, `HasWorkers`: the sizes that a set may have: 7 to 268,435,456 nodes, 1 to 64 workers
abbrev pub HasNodes : ℕ → Type 0
HasNodes nodes = (7 ≤ nodes) × (nodes ≤ 268435456)

abbrev pub HasWorkers : ℕ → Type 0
HasWorkers workers = (1 ≤ workers) × (workers ≤ 64)

-- an open set in a tree of that layout, whose workers claim by that fit
pub record IsNewSet (f : Fit) (L : Layout) (s : SetView) : Type 0 where
  pub begins : s.closing ≡ false
  pub keeps : s.kept ≡ []
  pub fit : s.fit ≡ f
  pub layout : s.tree.layout ≡ L

-- if the sizes are allowed, the handle has a new set, as an owner of the kind; or memory was
-- refused. Otherwise the outcome names a size that is not allowed, the nodes first
abbrev pub IsMade : (SetView → Owner) → Fit → Layout → ℕ → ℕ → Hold → Outcome → Type 0
IsMade kind f L nodes workers new o =
    ((o ≡ outcome.Done) × HasNodes nodes × HasWorkers workers × (s : SetView)
    × (new ≡ Open (kind s)) × IsNewSet f L s)
    ⊎ (((o ≡ outcome.NoMemory) × HasNodes nodes × HasWorkers workers × (new ≡ Closed))
    ⊎ (((o ≡ outcome.Nodes) × (HasNodes nodes → ⊥) × (new ≡ Closed))
    ⊎ ((o ≡ outcome.Workers) × HasNodes nodes × (HasWorkers workers → ⊥) × (new ≡ Closed))))

-- a closed handle owns a new set of the kind afterwards; one that is open already, or in use, is
-- unchanged
abbrev pub Makes : (SetView → Owner) → Fit → Layout → ℕ → ℕ → Hold → Hold → Outcome → Type 0
Makes kind f L nodes workers old new o =
    CannotOpen old new o ⊎ ((old ≡ Closed) × IsMade kind f L nodes workers new o)

abbrev pub MakesSet : Fit → Layout → ℕ → ℕ → Hold → Hold → Outcome → Type 0
MakesSet = Makes Set

-- ---- a worker of a set

-- what a set gives: a worker of its tree with its fit that has this property, as an owner of the
-- kind; or the reason for which it gives none, which depends on the call
abbrev pub Gives : (MemberView → Owner) → (SetView → WorkerView → Type 0) → (SetView → MemberFault → Type 0)
    → Result Owner Outcome → SetView → Type 0
Gives kind which faults (Ok y) s = (s.closing ≡ false)
    × (m : MemberView) × (y ≡ kind m) × (m.tree ≡ s.tree) × which s m.worker
Gives kind which faults (Err o) s =
    (why : MemberFault) × (o ≡ of_taking why) × ((why ≡ taking.Closing) ↔ (s.closing ≡ true))
    × faults s why

-- an owner of the one kind gives a worker as an owner of the other; the call of anything else is
-- refused
abbrev pub GivesOf : (SetView → Owner) → (MemberView → Owner) → (SetView → WorkerView → Type 0)
    → (SetView → MemberFault → Type 0) → Owner → Result Owner Outcome → Type 0
GivesOf kind worker which faults x r =
    ByKind kind x (Gives worker which faults r) (r ≡ Err outcome.Kind)

-- the handle has what was given; or memory was refused, or nothing was given, for the reason in the
-- outcome, and the handle is closed
abbrev pub Keeps : Result Owner Outcome → Hold → Outcome → Type 0
Keeps (Ok y) new o = ((o ≡ outcome.Done) × (new ≡ Open y))
    ⊎ ((o ≡ outcome.NoMemory) × (new ≡ Closed))
Keeps (Err why) new o = (o ≡ why) × (new ≡ Closed)

-- the call for a worker by two handles: that of the worker, which must be closed, and that of the
-- set, which is unchanged
abbrev pub TakesByHandles : (Owner → Result Owner Outcome → Type 0) → Hold → Hold → Hold
    → Outcome → Type 0
TakesByHandles gives set old new o =
    CannotOpen old new o
    ⊎ (((old ≡ Closed) × (new ≡ Closed) × IsRefused set set o)
    ⊎ ((old ≡ Closed) × (x : Owner) × (set ≡ Open x) × (r : Result Owner Outcome) × gives x r
    × Keeps r new o))

-- the worker of that number
abbrev pub IsNumbered : ℕ → SetView → WorkerView → Type 0
IsNumbered number s w = IsResident s.tree s.fit number w

-- `NumberFaults`, `AnyFaults`: the call for a number returns `Number` exactly if the set is open and the
-- tree has no such worker, and never `NoWorker`; the call for any worker returns neither `Number` nor
-- `Attached`
abbrev pub NumberFaults : ℕ → SetView → MemberFault → Type 0
NumberFaults number s why = ((why ≡ taking.Number)
    ↔ ((s.closing ≡ false) × (s.tree.layout.workers ≤ number))) × (why ≡ taking.NoWorker → ⊥)

abbrev pub GivesNumbered : (SetView → Owner) → (MemberView → Owner) → ℕ → Owner → Result Owner Outcome
    → Type 0
GivesNumbered kind worker number = GivesOf kind worker (IsNumbered number) (NumberFaults number)

-- a closed handle owns the worker of that number afterwards
abbrev pub TakesWorker : ℕ → Hold → Hold → Hold → Outcome → Type 0
TakesWorker number = TakesByHandles (GivesNumbered Set Worker number)

-- any worker
abbrev pub IsAny : SetView → WorkerView → Type 0
IsAny s w = IsAnyResident s.tree s.fit w

abbrev pub AnyFaults : SetView → MemberFault → Type 0
AnyFaults s why = (why ≡ taking.Number → ⊥) × (why ≡ taking.Attached → ⊥)

abbrev pub GivesAny : (SetView → Owner) → (MemberView → Owner) → Owner → Result Owner Outcome → Type 0
GivesAny kind worker = GivesOf kind worker IsAny AnyFaults

-- a closed handle owns a worker of any number afterwards
abbrev pub Attaches : Hold → Hold → Hold → Outcome → Type 0
Attaches = TakesByHandles (GivesAny Set Worker)

-- ---- a worker that is not returned

-- the outcome for the result of `Set::is_attached`
abbrev pub of_missing : Result Bool MemberFault → Outcome
of_missing (Ok away) = of_bool away
of_missing (Err why) = of_taking why

-- what a set answers about the worker of a number
abbrev pub IsMissing : ℕ → Outcome → SetView → Type 0
IsMissing number o s = (r : Result Bool MemberFault) × (o ≡ of_missing r) × TellsAttached s number r

-- what an owner of the kind answers; the call of anything else is refused
abbrev pub MissesOwned : (SetView → Owner) → ℕ → Owner → Outcome → Type 0
MissesOwned kind number x o = ByKind kind x (IsMissing number o) (o ≡ outcome.Kind)

-- the same by a handle
abbrev pub MissesByHandle : (SetView → Owner) → ℕ → Hold → Outcome → Type 0
MissesByHandle kind number set o =
    IsRefused set set o ⊎ ((x : Owner) × (set ≡ Open x) × MissesOwned kind number x o)

abbrev pub Misses : ℕ → Hold → Outcome → Type 0
Misses = MissesByHandle Set

-- ---- the close of a set

-- what is left of a closed set: its report, and no values
abbrev pub LeavesReport : SetView → Remains → Type 0
LeavesReport s r = SaysEnded s r.report × (r.values ≡ None)

-- what the close of the kind leaves is there; or the outcome is the reason, and the set is there as that
-- reason leaves it, as an owner of the kind
abbrev pub IsEnded : (SetView → Owner) → (SetView → Remains → Type 0) → Owner → Outcome → SetView → Type 0
IsEnded kind leaves new o s =
    ((o ≡ outcome.Done) × (r : Remains) × (new ≡ Ended r) × leaves s r)
    ⊎ ((why : CloseReason) × (o ≡ of_reason why) × (t : SetView) × (new ≡ kind t)
    × IsLeftOpen s why t)

-- what owned a set of the kind owns what is left of it afterwards; anything else is refused
unfoldable pub EndsOwned : (SetView → Owner) → (SetView → Remains → Type 0) → Owner → Owner → Outcome → Type 0
EndsOwned kind leaves x new o = ByKind kind x (IsEnded kind leaves new o) ((o ≡ outcome.Kind) × (new ≡ x))

-- a handle owns afterwards what a call on its owner leaves
abbrev pub EndsBy : (Owner → Owner → Outcome → Type 0) → Hold → Hold → Outcome → Type 0
EndsBy ends old new o = IsRefused old new o
    ⊎ ((x : Owner) × (old ≡ Open x) × (y : Owner) × (new ≡ Open y) × ends x y o)

abbrev pub EndsHandle : Hold → Hold → Outcome → Type 0
EndsHandle = EndsBy (EndsOwned Set LeavesReport)

-- ---- the close of a set by its last worker

-- the report is there; or the worker is there, unchanged; or the outcome is the reason for which
-- its tree was not closed, and the set is there, with the worker and those that had been returned
abbrev pub IsEndedBy : Owner → Outcome → MemberView → Type 0
IsEndedBy new o m =
    ((o ≡ outcome.Done) × (r : Remains) × (new ≡ Ended r) × LeavesReport (set_of m) r)
    ⊎ (((o ≡ outcome.Attached) × (new ≡ Worker m))
    ⊎ ((why : CloseReason) × (o ≡ of_reason why) × (t : SetView) × (new ≡ Set t)
    × HasGathered (set_of m) why t))

-- what owned a set's last worker owns what is left afterwards; anything else is refused
abbrev pub EndsByOwner : Owner → Owner → Outcome → Type 0
EndsByOwner x new o = ByKind Worker x (IsEndedBy new o) ((o ≡ outcome.Kind) × (new ≡ x))

abbrev pub EndsByHandle : Hold → Hold → Outcome → Type 0
EndsByHandle = EndsBy EndsByOwner

-- ---- what any handle owns

-- what it owns is given up: the handle is closed, and the outcome says whether it was open
abbrev pub GivesUp : Hold → Hold → Outcome → Type 0
GivesUp old new o = IsRefused old new o
    ⊎ ((x : Owner) × (old ≡ Open x) × (o ≡ outcome.Done) × (new ≡ Closed))
