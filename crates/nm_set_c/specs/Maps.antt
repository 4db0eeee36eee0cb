-- What calls on a map and on its workers return and leave: m is the worker before the call, n the
-- worker after it, and o the outcome.
use Rattle.std.specs.Prelude.{◌≡◌, ◌⊎◌, ℕ, Bool, true, false, List, Option, Some, None, Result, Ok, Err}
use Rattle.nm_edge.specs.Keys.{IsKey}
use Rattle.nm_edge.specs.Layouts.{Layout}
use Rattle.nm_edge.specs.declared.placement.Fit.{Fit}
use Rattle.nm_model.specs.declared.event.Op.TheVariants.{Insert, Delete}
use Rattle.nm_steps.specs.Steps.{TreeView}
use Rattle.nm_calls.specs.Maps.{HasPut, MapGave}
use Rattle.nm_calls.specs.declared.fault.CallFault.{CallFault}
use Rattle.nm_calls.specs.declared.fault.CallFault.TheVariants as fault
use Rattle.nm_epoch.specs.declared.handing.HandedOut.{HandedOut}
use Rattle.nm_tree.specs.Answers.{IfTaken}
use Rattle.nm_tree.specs.MapReports.{MapValuesView}
use Rattle.nm_tree.specs.Workers.{WorkerView}
use Rattle.nm_set.specs.declared.fault.PinnedGetFault.{PinnedGetFault}
use Rattle.nm_set.specs.declared.fault.PinnedGetFault.TheVariants as getting
use Rattle.nm_set.specs.declared.managed.Options.{Options}
use Rattle.nm_set.specs.Ends.{SaysMapEnded}
use Rattle.nm_set.specs.Maps.{LeavesReclaim, SaysChange, SaysGet, SaysPinnedGet, TookMeanwhile}
use Rattle.nm_set.specs.Seats.{MemberView, SetView}
use Rattle.nm_set_c.specs.Handles.{Hold}
use Rattle.nm_set_c.specs.NextKeys.{TellsNear}
use Rattle.nm_set_c.specs.Outcomes.{of_answer}
use Rattle.nm_set_c.specs.Sets.{EndsBy, EndsOwned, GivesAny, GivesNumbered, Makes, MissesByHandle, TakesByHandles}
use Rattle.nm_set_c.specs.Workers.{OfKey, TellsAnswer}
use Rattle.nm_set_c.specs.declared.outcome.Outcome.{Outcome}
use Rattle.nm_set_c.specs.declared.outcome.Outcome.TheVariants as outcome
use Rattle.nm_set_c.specs.declared.owner.Owner.TheVariants.{Map, MapWorker}
use Rattle.nm_set_c.specs.declared.remains.Remains.{Remains}

-- ---- a map: what `Sets` says of a set and its workers, for the owners of maps

abbrev pub MakesMap : Fit → Layout → ℕ → ℕ → Hold → Hold → Outcome → Type 0
MakesMap = Makes Map

abbrev pub TakesMapWorker : ℕ → Hold → Hold → Hold → Outcome → Type 0
TakesMapWorker number = TakesByHandles (GivesNumbered Map MapWorker number)

abbrev pub AttachesToMap : Hold → Hold → Hold → Outcome → Type 0
AttachesToMap = TakesByHandles (GivesAny Map MapWorker)

abbrev pub MissesOfMap : ℕ → Hold → Outcome → Type 0
MissesOfMap = MissesByHandle Map

-- what is left of a closed map: its report, and its values, which a caller of `Map::close` learns too
abbrev pub LeavesMapReport : SetView → Remains → Type 0
LeavesMapReport s r = (v : MapValuesView) × (r.values ≡ Some v)
    × SaysMapEnded s (record { report = r.report; values = v })

abbrev pub EndsMap : Hold → Hold → Outcome → Type 0
EndsMap = EndsBy (EndsOwned Map LeavesMapReport)

-- ---- values by key: managed calls

-- the value that the map has under the key is written, if it has the key
abbrev pub TellsGet : Options → ℕ → ℕ → ℕ → MemberView → MemberView → Outcome → Type 0
TellsGet h k = TellsNear k (λ b. SaysGet b h k)

-- what an insert of a key with a value says, and that the map had both if the key was absent
pub record InsertsValue (b : TreeView) (h : Options) (k v : ℕ) (w z : WorkerView) (r : Result Bool CallFault)
    : Type 0 where
  pub says : SaysChange Insert b h k w z r
  pub puts : r ≡ Ok true → HasPut w.pass z.pass k v

abbrev pub TellsMapInsert : Options → ℕ → ℕ → MemberView → MemberView → Outcome → Type 0
TellsMapInsert h k v m n o = OfKey k (TellsAnswer (InsertsValue m.tree h k v) m n o) m n o

-- the value that is written if the key of an insert was there, or the number that was there before
abbrev pub there_written : Result Bool CallFault → ℕ → ℕ → ℕ
there_written (Ok false) there old = there
there_written _ there old = old

-- the worker's call is made, and the outcome is that of its answer. If the key was there, the map had
-- it with the found value at a moment of the call, and this value is written
pub record FindsOrInserts (h : Options) (k v old found : ℕ) (m n : MemberView) (o : Outcome) : Type 0 where
  pub answer : Result Bool CallFault
  pub told : o ≡ of_answer answer
  pub tree : n.tree ≡ m.tree
  pub says : InsertsValue m.tree h k v m.worker n.worker answer
  pub there : ℕ
  pub finds : answer ≡ Ok false → MapGave m.worker.pass n.worker.pass k (Some there)
  pub written : found ≡ there_written answer there old

-- if the number is a key, that call is made; otherwise the outcome is `Key`, and nothing has changed
abbrev pub TellsFindOrInsert : Options → ℕ → ℕ → ℕ → ℕ → MemberView → MemberView → Outcome → Type 0
TellsFindOrInsert h k v old found m n o = (IsKey k × FindsOrInserts h k v old found m n o)
    ⊎ ((IsKey k → ⊥) × (o ≡ outcome.Key) × (n ≡ m) × (found ≡ old))

-- the value that is written if the remove has taken its key, whether it is finished or not; or the
-- number that was there before
abbrev pub taken_written : Result Bool CallFault → ℕ → ℕ → ℕ
taken_written (Ok true) taken old = taken
taken_written (Err fault.Unfinished) taken old = taken
taken_written _ taken old = old

-- the worker's call is made, and the outcome is that of its answer. If the call has taken the key,
-- the map had the key with the taken value at a moment of the call, and this value is written
pub record TakesValue (h : Options) (k old value : ℕ) (m n : MemberView) (o : Outcome) : Type 0 where
  pub answer : Result Bool CallFault
  pub told : o ≡ of_answer answer
  pub tree : n.tree ≡ m.tree
  pub says : SaysChange Delete m.tree h k m.worker n.worker answer
  pub taken : ℕ
  pub takes : IfTaken answer (TookMeanwhile m.worker.pass n.worker.pass k taken)
  pub written : value ≡ taken_written answer taken old

-- if the number is a key, that call is made; otherwise the outcome is `Key`, and nothing has changed
abbrev pub TellsTake : Options → ℕ → ℕ → ℕ → MemberView → MemberView → Outcome → Type 0
TellsTake h k old value m n o = (IsKey k × TakesValue h k old value m n o)
    ⊎ ((IsKey k → ⊥) × (o ≡ outcome.Key) × (n ≡ m) × (value ≡ old))

-- ---- values that come back

-- the number of a worker, as it is written: for none it is 2^32 - 1
abbrev pub number_written : Option ℕ → ℕ
number_written (Some number) = number
number_written None = 4294967295

-- the worker's call is made, which writes values to the slice; their number is written, and so is
-- the worker that was found to hold the epoch back
pub record TellsReclaim (old new : List ℕ) (count behind : ℕ) (m n : MemberView) (o : Outcome) : Type 0 where
  pub told : o ≡ outcome.Done
  pub tree : n.tree ≡ m.tree
  pub handed : HandedOut
  pub counts : count ≡ handed.values
  pub found : Option ℕ
  pub held : behind ≡ number_written found
  pub says : LeavesReclaim m.tree.layout old new m.worker n.worker found handed

-- ---- a value under the caller's pin

-- `of_pinned_get`, `pinned_written`: the outcome of such a call, by its answer, and the value that is
-- written, or the number that was there before
abbrev pub of_pinned_get : Result (Option ℕ) PinnedGetFault → Outcome
of_pinned_get (Ok (Some found)) = outcome.Yes
of_pinned_get (Ok None) = outcome.No
of_pinned_get (Err getting.NotPinned) = outcome.NotPinned
of_pinned_get (Err getting.Busy) = outcome.Busy

abbrev pub pinned_written : Result (Option ℕ) PinnedGetFault → ℕ → ℕ
pinned_written (Ok (Some found)) old = found
pinned_written (Ok None) old = old
pinned_written (Err f) old = old

-- the worker's call is made, the outcome is that of its answer, and the value is written if there is
-- one
pub record GetsPinned (k old value : ℕ) (m n : MemberView) (o : Outcome) : Type 0 where
  pub answer : Result (Option ℕ) PinnedGetFault
  pub told : o ≡ of_pinned_get answer
  pub written : value ≡ pinned_written answer old
  pub tree : n.tree ≡ m.tree
  pub says : SaysPinnedGet m.tree.layout k m.worker n.worker answer

-- if the number is a key, that call is made; otherwise the outcome is `Key`, and nothing has changed
abbrev pub TellsGetPinned : ℕ → ℕ → ℕ → MemberView → MemberView → Outcome → Type 0
TellsGetPinned k old value m n o = (IsKey k × GetsPinned k old value m n o)
    ⊎ ((IsKey k → ⊥) × (o ≡ outcome.Key) × (n ≡ m) × (value ≡ old))
