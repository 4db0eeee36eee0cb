-- What the calls of a map by any thread say: what a member of the map says, by the worker of one visit.
use Rattle.std.specs.Prelude.{◌≡◌, ℕ, Bool, List, true, false, Option, Some, Result, Ok, Err, IfErr}
use Rattle.nm_edge.specs.Layouts.{Layout}
use Rattle.nm_edge.specs.declared.edge.Side.{Side}
use Rattle.nm_model.specs.declared.event.Op.TheVariants.{Delete, Insert}
use Rattle.nm_steps.specs.Steps.{TreeView}
use Rattle.nm_calls.specs.MapScans.{HadEntries, keys_of}
use Rattle.nm_calls.specs.Maps.{HasPut, MapGave}
use Rattle.nm_calls.specs.declared.fault.CallFault.{CallFault}
use Rattle.nm_calls.specs.declared.fault.CallFault.TheVariants as fault
use Rattle.nm_calls.specs.declared.many.Query.{Query}
use Rattle.nm_calls.specs.declared.map_scanning.MapEntry.{MapEntry}
use Rattle.nm_calls.specs.declared.scanning.Scanned.{Scanned}
use Rattle.nm_puts.specs.declared.putting.Condition.{Condition}
use Rattle.nm_puts.specs.declared.putting.PutOutcome.{PutOutcome}
use Rattle.nm_tree.specs.declared.removing.RemoveOutcome.{RemoveOutcome}
use Rattle.nm_tree.specs.declared.fault.PinFault.{PinFault}
use Rattle.nm_tree.specs.declared.fault.PinFault.TheVariants as pinning
use Rattle.nm_tree.specs.Answers.{FreesNone, IfTaken}
use Rattle.nm_tree.specs.Calls.{LeavesPinnedGetMany, LeavesUnpin}
use Rattle.nm_tree.specs.Workers.{WorkerView}
use Rattle.nm_set.specs.declared.managed.Options.{Options}
use Rattle.nm_set.specs.declared.map_managed.Reclaimed.{Reclaimed}
use Rattle.nm_set.specs.Asked.{AskedToPin}
use Rattle.nm_set.specs.MapPuts.{SaysManagedPut}
use Rattle.nm_set.specs.MapRemoves.{SaysRemoveIf}
use Rattle.nm_set.specs.Maps.{FindsValue, LeavesReclaim, PopsValue, SaysChange, SaysGet, TookMeanwhile}
use Rattle.nm_set.specs.NextKeys.{AskedNext, AskedPrev}
use Rattle.nm_set.specs.Popping.{SaysManagedPopOf}
use Rattle.nm_set.specs.Scanning.{AskedScan}
use Rattle.nm_shared.specs.Sharing.{CallerView, SharedView, Visited}

-- an insert with a value v: if it returns true, the map had the key with v at a moment of the call, and
-- if it returns false, with the value f
pub record InsertsValue (b : TreeView) (h : Options) (k v f : ℕ) (w z : WorkerView) (r : Result Bool CallFault) : Type
    0 where
  pub says : SaysChange Insert b h k w z r
  pub puts : r ≡ Ok true → HasPut w.pass z.pass k v
  pub finds : r ≡ Ok false → MapGave w.pass z.pass k (Some f)

-- a remove: the map had the key with the value v right before the leaf was flagged
pub record TakesValue (b : TreeView) (h : Options) (k v : ℕ) (w z : WorkerView) (r : Result Bool CallFault) : Type
    0 where
  pub says : SaysChange Delete b h k w z r
  pub takes : IfTaken r (TookMeanwhile w.pass z.pass k v)

-- a pop of one of these keys, in that order, which took it with the value v
pub record PopsEntry (Among : ℕ → Type 0) (Before : ℕ → ℕ → Type 0) (b : TreeView) (h : Options) (v : ℕ)
    (w z : WorkerView) (r : Result (Option ℕ) CallFault) : Type 0 where
  pub says : SaysManagedPopOf Among Before b h w z r
  pub takes : PopsValue w.pass z.pass v r
  pub frees : FreesNone w z

-- `NextEntry`, `PrevEntry`: the key next to a given one, on either side, which the map had with the value v
pub record NextEntry (L : Layout) (tries k v : ℕ) (w z : WorkerView) (r : Result (Option ℕ) CallFault) : Type 0 where
  pub says : AskedNext L tries k w z r
  pub finds : FindsValue w.pass z.pass v r

pub record PrevEntry (L : Layout) (tries k v : ℕ) (w z : WorkerView) (r : Result (Option ℕ) CallFault) : Type 0 where
  pub says : AskedPrev L tries k w z r
  pub finds : FindsValue w.pass z.pass v r

-- a scan of a range, each of whose entries the map had at a moment of the call
pub record ScansEntries (side : Side) (L : Layout) (tries from to : ℕ) (old new : List MapEntry) (w z : WorkerView)
    (r : Result Scanned CallFault) : Type 0 where
  pub says : AskedScan side L tries from to (keys_of old) (keys_of new) w z r
  pub finds : HadEntries w.pass z.pass new r
  pub kept : IfErr r (λ e. new ≡ old)

-- a worker that is pinned looks up the values of these queries, from the old ones to the new ones, and is
-- unpinned
pub record AsksUnderPin (L : Layout) (old new : List Query) (w z : WorkerView) (r : Result (Unit {0}) CallFault)
    : Type 0 where
  pub asked : WorkerView
  pub gets : LeavesPinnedGetMany L old new w asked r
  pub unpins : LeavesUnpin asked z

-- the fault of a call whose worker was not pinned
abbrev pub of_pin : PinFault → CallFault
of_pin (pinning.Moved epoch) = fault.Busy
of_pin pinning.Pending = fault.Pending
of_pin pinning.Pinned = fault.Pinned

-- the worker does that if it was pinned, and nothing if it was not
abbrev pub AsksIfPinned : Layout → List Query → List Query → WorkerView → WorkerView → Result ℕ PinFault
    → Result (Unit {0}) CallFault → Type 0
AsksIfPinned L old new w z (Ok epoch) r = AsksUnderPin L old new w z r
AsksIfPinned L old new w z (Err f) r = (r ≡ Err (of_pin f)) × (z ≡ w) × (new ≡ old)

-- a look-up of the values of several queries under a pin of its own
pub record GetsMany (L : Layout) (tries : ℕ) (old new : List Query) (w z : WorkerView)
    (r : Result (Unit {0}) CallFault) : Type 0 where
  pub pinned : WorkerView
  pub pin : Result ℕ PinFault
  pub pins : AskedToPin tries w pinned pin
  pub asks : AsksIfPinned L old new pinned z pin r

-- ---- by the worker of one visit

abbrev pub SaysSharedGet : SharedView → Options → ℕ → CallerView → CallerView → Result (Option ℕ) CallFault → Type 0
SaysSharedGet s h k was now r = Visited (λ w z. SaysGet s.set.tree h k w z r) s was now

abbrev pub SaysSharedGetMany : SharedView → Options → List Query → List Query → CallerView → CallerView
    → Result (Unit {0}) CallFault → Type 0
SaysSharedGetMany s h old new was now r =
    Visited (λ w z. GetsMany s.set.tree.layout h.tries old new w z r) s was now

abbrev pub SaysSharedInsert : SharedView → Options → ℕ → ℕ → ℕ → CallerView → CallerView → Result Bool CallFault
    → Type 0
SaysSharedInsert s h k v f was now r = Visited (λ w z. InsertsValue s.set.tree h k v f w z r) s was now

abbrev pub SaysSharedPut : SharedView → Options → Condition → ℕ → ℕ → CallerView → CallerView
    → Result PutOutcome CallFault → Type 0
SaysSharedPut s h when k v was now r = Visited (λ w z. SaysManagedPut s.set.tree h when k v w z r) s was now

abbrev pub SaysSharedRemoveIf : SharedView → Options → ℕ → ℕ → CallerView → CallerView
    → Result RemoveOutcome CallFault → Type 0
SaysSharedRemoveIf s h k expected was now r =
    Visited (λ w z. SaysRemoveIf s.set.tree h k expected w z r) s was now

abbrev pub SaysSharedTake : SharedView → Options → ℕ → ℕ → CallerView → CallerView → Result Bool CallFault → Type 0
SaysSharedTake s h k v was now r = Visited (λ w z. TakesValue s.set.tree h k v w z r) s was now

abbrev pub SaysSharedPopEntry : (ℕ → Type 0) → (ℕ → ℕ → Type 0) → SharedView → Options → ℕ → CallerView → CallerView
    → Result (Option ℕ) CallFault → Type 0
SaysSharedPopEntry Among Before s h v was now r =
    Visited (λ w z. PopsEntry Among Before s.set.tree h v w z r) s was now

abbrev pub SaysSharedNextEntry : SharedView → Options → ℕ → ℕ → CallerView → CallerView
    → Result (Option ℕ) CallFault → Type 0
SaysSharedNextEntry s h k v was now r =
    Visited (λ w z. NextEntry s.set.tree.layout h.tries k v w z r) s was now

abbrev pub SaysSharedPrevEntry : SharedView → Options → ℕ → ℕ → CallerView → CallerView
    → Result (Option ℕ) CallFault → Type 0
SaysSharedPrevEntry s h k v was now r =
    Visited (λ w z. PrevEntry s.set.tree.layout h.tries k v w z r) s was now

abbrev pub SaysSharedEntries : Side → SharedView → Options → ℕ → ℕ → List MapEntry → List MapEntry → CallerView
    → CallerView → Result Scanned CallFault → Type 0
SaysSharedEntries side s h from to old new was now r =
    Visited (λ w z. ScansEntries side s.set.tree.layout h.tries from to old new w z r) s was now

abbrev pub SaysSharedReclaim : SharedView → List ℕ → List ℕ → CallerView → CallerView → Reclaimed → Type 0
SaysSharedReclaim s old new was now r =
    Visited (λ w z. LeavesReclaim s.set.tree.layout old new w z r.behind r.handed) s was now
